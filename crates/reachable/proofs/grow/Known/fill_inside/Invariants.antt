-- `reachable::grow::Known::fill_inside` meets its contract.
use Prim.Native.Nat.{◌<◌}
use mathlib.Core.Path.{◌≡◌}
use Rattle.files.specs.Sets.{members}
use Rattle.reachable.specs.Grow.{work, fill_each, fill_inside}
use Rattle.reachable.proofs.grow.Known.fill_inside.Given as goal

abbrev pub invariant-loop-x : goal.invariant-loop-x
invariant-loop-x l = (l.d < 8) × (fill_each l.base l.d l.inside (members l.x-iterator.0) (work l.sheet l.self.reached l.self.steps) ≡ fill_inside l.base l.c (work l.initial.sheet l.initial.self.reached l.initial.self.steps))
