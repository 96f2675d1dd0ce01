-- `reachable::sheet::Sheet::lay_absences` meets its contract.
use borrow.Author.Rules.{rules}
use Rattle.reachable.proofs.Laying.{absences_laws}
use Rattle.reachable.proofs.sheet.Sheet.lay_absences.Goals as goal

pub loop-r-preserved : goal.loop-r-preserved
loop-r-preserved c = search (rules, absences_laws)

pub returns : goal.returns
returns c = search (rules, absences_laws)
