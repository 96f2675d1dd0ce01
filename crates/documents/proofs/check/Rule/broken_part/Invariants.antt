-- What remains of the parts on the path decides.
use Rattle.std.proofs.Common.{◌≡◌}
use Rattle.files.specs.Kinds.{kind_number}
use Rattle.documents.specs.Held.{first_on, rule, break_along}
use Rattle.documents.specs.PartList.{part_limit}
use Rattle.documents.specs.Paths.{context_of}
use Rattle.documents.specs.Reading.{parent_at}
use Rattle.documents.proofs.Breaking.{AlongSoFar}
use Rattle.documents.proofs.check.Rule.broken_part.Given as goal

abbrev pub invariant-loop-part : goal.invariant-loop-part
invariant-loop-part l =
    (l.part-iterator.next.now ≡ l.held.next)
    × AlongSoFar (rule (kind_number l.self.kind) l.self.left l.self.right) l.held.sets l.held.next
    (break_along (rule (kind_number l.self.kind) l.self.left l.self.right) l.held.sets l.held.next part_limit part_limit
    (first_on l.held.first (context_of (parent_at l.parent) l.self.left l.self.right)))
    l.part-iterator.at
