-- The children so far are read and marked.
use Rattle.documents.proofs.PartReader.{KidsSoFar}
use Rattle.documents.proofs.document.read_kids.Given as goal

abbrev pub invariant-loop : goal.invariant-loop
invariant-loop l = KidsSoFar l.fn.reader l.reader l.parts l.n l.path l.many l.counter l.fn.namers l.namers l.last
