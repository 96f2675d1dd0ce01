-- What the children so far hold and what is left is the whole.
use Rattle.documents.proofs.Holding.{HeldSoFar}
use Rattle.documents.proofs.held.children_hold.Given as goal

abbrev pub invariant-loop : goal.invariant-loop
invariant-loop l = HeldSoFar l.document l.held l.at l.reader l.many l.counter l.set
