-- `reachable::sheet::Sheet::lay_below` meets its contract.
use borrow.Author.Rules.{rules}
use Rattle.reachable.proofs.Laying.{rows_laws}
use Rattle.reachable.proofs.sheet.Sheet.lay_below.Goals as goal

pub loop-x-preserved : goal.loop-x-preserved
loop-x-preserved c = search (rules, rows_laws)

pub returns : goal.returns
returns c = search (rules, rows_laws)
