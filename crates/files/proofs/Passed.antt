-- Laws of a number with a test, in the words of the code.
use Prim.Native.Nat.{ℕ, zero, suc, ◌<◌, ◌≤◌}
use mathlib.Core.Path.{◌≡◌, refl}
use mathlib.Core.List.{List}
use native.Mathlib.Omega.{arith}
use Rattle.files.specs.Number.{Begun, Is, Refused, number_in, passed, tested}
use Rattle.files.specs.RuleFile.{between}
use Rattle.files.proofs.PathTests.{test_low, test_past, test_in}

pub passed_own : (n size k : ℕ) → 0 < k → Refused k ≡ passed n size k
unfolding passed
passed_own n size zero h = absurd (omega arith)
passed_own n size (suc k) h = refl

pub passed_good : (n size k : ℕ) → k ≤ 0 → Is n size ≡ passed n size k
unfolding passed
passed_good n size zero h = refl
passed_good n size (suc k) h = absurd (omega arith)

pub ruleset passed_laws = (passed_own, passed_good)

-- a number that was read, with its test
module _ (test : ℕ → ℕ) (r : Begun) (t : List ℕ) (e : r ≡ number_in t) where
  pub tested_bad : {k : ℕ} → r ≡ Refused k → Refused k ≡ tested test (number_in t)
  unfolding tested
  tested_bad f = rw (← e, f)

  pub tested_on : {n size : ℕ} (w : ℕ) (q : Begun) → r ≡ Is n size → w ≡ test n → q ≡ passed n size w → q ≡ tested test (number_in t)
  unfolding tested
  tested_on w q f g h = rw (← e, f, ← g) h

-- the same where the test is whether it stands between two others
module _ (low past k : ℕ) (r : Begun) (t : List ℕ) (e : r ≡ number_in t) {n size : ℕ} (f : r ≡ Is n size) where
  pub tested_low : {q : Begun} → n < low → q ≡ passed n size k → q ≡ tested (between low past k) (number_in t)
  tested_low h g = tested_on (between low past k) r t e k _ f (test_low low past k n h) g

  pub tested_past : {q : Begun} → low ≤ n → past ≤ n → q ≡ passed n size k → q ≡ tested (between low past k) (number_in t)
  tested_past h l g = tested_on (between low past k) r t e k _ f (test_past low past k n h l) g

  pub tested_in : low ≤ n → n < past → Is n size ≡ tested (between low past k) (number_in t)
  tested_in h l = tested_on (between low past k) r t e 0 _ f (test_in low past k n h l) (passed_good n size 0 (omega arith))

pub ruleset tested_laws = (tested_bad, tested_low, tested_past, tested_in)
