-- The least number that passes a test, as a loop finds it, and the set of those that pass.
use Rattle.std.specs.Prelude.{ℕ, zero, suc, Bool, true, false, not, eqb}
use Rattle.files.specs.Sets.{with_path}

-- the first of the `left` numbers from `at` on that passes the test; the number after them if none does
unfoldable pub first_from : (test : ℕ → Bool) (left at : ℕ) → ℕ
first_from test zero at = at
first_from test (suc left) at = elim (test at) [ true ↦ at | false ↦ first_from test left (suc at) ]

-- the least number below n that passes the test; n if none does
unfoldable pub least : (test : ℕ → Bool) (n : ℕ) → ℕ
least test n = first_from test n 0

-- the set of the paths with numbers below n that pass the test
unfoldable pub passing : (test : ℕ → Bool) (n : ℕ) → ℕ
passing test zero = 0
passing test (suc x) = let w = passing test x in elim (test x) [ true ↦ with_path w x | false ↦ w ]

-- whether the set has a path
unfoldable pub some_in : ℕ → Bool
some_in w = not (eqb w 0)
