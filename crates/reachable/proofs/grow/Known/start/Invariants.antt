-- `reachable::grow::Known::start` meets its contract.
use mathlib.Core.Path.{◌≡◌}
use Rattle.reachable.specs.Grow.{start_sets, start_out}
use Rattle.reachable.proofs.grow.Known.start.Given as goal

abbrev pub invariant-loop-x : goal.invariant-loop-x
invariant-loop-x l = (start_sets l.x l.reached ≡ start_sets 64 l.initial.reached) × (start_out l.sheet l.row l.x l.steps ≡ start_out l.sheet l.row 64 l.initial.steps)
