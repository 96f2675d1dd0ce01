-- `reachable::grow::Known::grow` meets its contract.
use Prim.Native.Nat.{◌-◌}
use mathlib.Core.Path.{◌≡◌}
use lib.ListN.{get_or}
use Rattle.reachable.specs.Grow.{grow_from}
use Rattle.reachable.proofs.grow.Known.grow.Given as goal

abbrev pub invariant-loop-round : goal.invariant-loop-round
invariant-loop-round l = grow_from l.self.reached l.self.steps l.inside (64 - l._round) l.reached l.steps ≡ grow_from l.self.reached l.self.steps l.inside 64 (get_or l.self.reached l.x 0) (get_or l.self.steps l.x 0)
