-- The parts from number n on are in the arrays.
use Rattle.documents.specs.Held.{Linked}
use Rattle.documents.proofs.held.hold_all.Given as goal

abbrev pub invariant-loop-n : goal.invariant-loop-n
invariant-loop-n l = Linked l.document l.parts.path l.parts.place l.parts.count l.n l.held.sets l.held.first l.held.next
