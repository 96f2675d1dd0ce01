-- The parts so far are in the arrays.
use Rattle.std.proofs.Common.{◌≡◌}
use Rattle.documents.specs.Reading.{parent_at}
use Rattle.documents.proofs.PartLists.{PartsSoFar}
use Rattle.documents.proofs.document.read_parts.Given as goal

abbrev pub invariant-loop-n : goal.invariant-loop-n
invariant-loop-n l =
    (l.parts.count ≡ l.count)
    × PartsSoFar l.fn.reader l.reader (parent_at l.paths.parent) l.paths.count l.count l.parts.path l.parts.place l.namers l.n
