-- What the rules so far clash at is joined.
use mathlib.Core.Path.{◌≡◌}
use Rattle.evidence.specs.Choices.{clash_below}
use Rattle.evidence.proofs.choose.clashing.Given as goal

abbrev pub invariant-loop-j : goal.invariant-loop-j
invariant-loop-j l = l.all ≡ clash_below l.sheet l.j
