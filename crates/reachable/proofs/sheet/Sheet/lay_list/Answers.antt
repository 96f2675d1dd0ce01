-- `reachable::sheet::Sheet::lay_list` meets its contract.
use borrow.Author.Rules.{rules}
use Rattle.reachable.proofs.Laying.{list_laws}
use Rattle.reachable.proofs.sheet.Sheet.lay_list.Goals as goal

pub loop-r-preserved : goal.loop-r-preserved
loop-r-preserved c = search (rules, list_laws)

pub returns : goal.returns
returns c = search (rules, list_laws)
