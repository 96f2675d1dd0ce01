-- What remains of the climb decides.
use Rattle.std.proofs.Common.{◌≡◌, ◌-◌}
use Rattle.documents.specs.Paths.{meet}
use Rattle.documents.specs.Reading.{parent_at}
use Rattle.documents.proofs.context.meet.Given as goal

abbrev pub invariant-loop : goal.invariant-loop
invariant-loop l = meet (parent_at l.parent) (l.fuel - l.counter) l.left l.right ≡ meet (parent_at l.parent) l.fuel l.p l.q
