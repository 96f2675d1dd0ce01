-- The codes so far and those to come are all the codes.
use Prim.Native.Nat.{◌-◌, ◌<◌}
use mathlib.Core.Path.{◌≡◌}
use mathlib.Core.List.{◌++◌}
use lib.ListN.{length}
use Rattle.evidence.specs.Nearer.{codes_from}
use Rattle.evidence.proofs.seek.walk_codes.Given as goal

abbrev pub invariant-loop-step : goal.invariant-loop-step
invariant-loop-step l =
    (l.z < 64)
    × (length l.codes.items ≡ l._step)
    × (l.codes.items ++ codes_from l.sheet l.within l.y (64 - l._step) l.z ≡ codes_from l.sheet l.within l.y 64 l.x)
