-- The rounds that are left find what all of them find.
use Prim.Native.Nat.{◌-◌}
use mathlib.Core.Path.{◌≡◌}
use Rattle.evidence.specs.Nearer.{nearer_from}
use Rattle.evidence.proofs.nearer.search.Given as goal

abbrev pub invariant-loop-round : goal.invariant-loop-round
invariant-loop-round l = nearer_from l.sheet l.within l.x (64 - l._round) l.met l.last ≡ nearer_from l.sheet l.within l.x 64 l.goal l.goal
