-- `reachable::sheet::Sheet::fill_all` meets its contract.
use borrow.Author.Rules.{rules}
use Rattle.reachable.proofs.Growing.{down_laws}
use Rattle.reachable.proofs.sheet.Sheet.fill_all.Goals as goal

pub loop-c-preserved : goal.loop-c-preserved
loop-c-preserved c = search (rules, down_laws)

pub returns : goal.returns
returns c = search (rules, down_laws)
