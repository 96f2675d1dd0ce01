-- No row so far passes, whatever test the closure is.
use Prim.Native.Nat.{ℕ, ◌-◌, ◌<◌, ◌^◌}
use mathlib.Core.Path.{◌≡◌}
use mathlib.Core.Bool.{Bool}
use Rattle.theory.specs.Least.{first_from}
use Rattle.reachable.specs.Sheet.{absences_in}
use Rattle.evidence.specs.Choices.{row_passes, first_row}
use Rattle.evidence.proofs.choose.first_row.Given as goal

abbrev pub invariant-loop-j : goal.invariant-loop-j
invariant-loop-j g l =
    (passes : ℕ → Bool) → ((w : ℕ) (r : Bool) → w < 2 ^ 64 → goal.F-post g l.test w r → r ≡ passes w)
    → first_from (row_passes l.sheet passes) (absences_in l.sheet - l.j) l.j ≡ first_row l.sheet passes
