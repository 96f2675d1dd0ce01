-- The parents so far are there.
use Rattle.files.proofs.Tables.{ParentsSoFar}
use Rattle.files.proofs.rules.parents.Given as goal

abbrev pub invariant-loop-x : goal.invariant-loop-x
invariant-loop-x l = ParentsSoFar l.parent l.x-end l.clean l.x
