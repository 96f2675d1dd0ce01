-- `reachable::sheet::Sheet::lay_rules` meets its contract.
use borrow.Author.Rules.{rules}
use Rattle.reachable.proofs.Laying.{rules_laws}
use Rattle.reachable.proofs.sheet.Sheet.lay_rules.Goals as goal

pub loop-r-preserved : goal.loop-r-preserved
loop-r-preserved c = search (rules, rules_laws)

pub returns : goal.returns
returns c = search (rules, rules_laws)
