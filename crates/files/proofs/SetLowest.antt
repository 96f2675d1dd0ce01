-- Laws of the least path of a set, and of the set without it.
use Prim.Native.Nat.{ℕ, zero, suc, ◌+◌, ◌-◌, ◌*◌, ◌/◌, ◌%◌, ◌^◌, ◌≤◌, ◌<◌, min}
use mathlib.Core.Path.{◌≡◌, refl, ap, ◌∙◌}
use mathlib.Core.Logic.{◌↔◌, ◌≢◌}
use native.Mathlib.Nat.{zero-lt-suc, pow-suc}
use native.Mathlib.Decide.{dec_lt}
use native.Mathlib.Omega.{arith}
use lib.Pow.{pow_pos}
use lib.Bits.{bit_and, and_step, and_self}
use lib.Count.{count_trailing_zeros, under, trailing_le}
use Rattle.files.specs.Sets.{bit, Has, lowest, without_lowest}
use Rattle.files.proofs.SetBits.{bit_zero, bit_suc, not_has, bit_of_zero, without_old, without_absent, bit_without_same, bit_without_other, has_without, without_lt}

-- no path below the least
none_below : (k w i : ℕ) → i < count_trailing_zeros k w → bit w i ≡ 0
unfolding count_trailing_zeros
none_below zero w i h = omega arith
none_below (suc k) w i h = go (w % 2) refl i (none_below k (w / 2)) h
  where
    go : (d : ℕ) → w % 2 ≡ d → (j : ℕ) → ((m : ℕ) → m < count_trailing_zeros k (w / 2) → bit (w / 2) m ≡ 0)
        → j < under d (count_trailing_zeros k (w / 2)) → bit w j ≡ 0
    go zero e zero ih l = bit_zero w ∙ e
    go zero e (suc j) ih l = bit_suc w j ∙ ih j (omega arith)
    go (suc d) e j ih l = omega arith

-- what t, the least path of a set w of paths below k, is to w
record Least (k w t : ℕ) : Type 0 where
  under_k : t < k
  there : bit w t ≡ 1
  rest : bit_and w (w - 1) + 2 ^ t ≡ w

least : (k w : ℕ) → 0 < w → w < 2 ^ k → Least k w (count_trailing_zeros k w)
unfolding count_trailing_zeros
least zero w p h = absurd (omega arith)
least (suc k) w p h = go (w % 2) refl (λ q. least k (w / 2) q (omega (arith, pow-suc 2 k)))
  where
    even : w % 2 ≡ 0 → Least k (w / 2) (count_trailing_zeros k (w / 2)) → Least (suc k) w (suc (count_trailing_zeros k (w / 2)))
    even e l =
        let less : (w - 1) / 2 ≡ w / 2 - 1 = omega arith in
        let step : bit_and w (w - 1) ≡ bit_and (w / 2) (w / 2 - 1) * 2 + min (w % 2) ((w - 1) % 2) =
        and_step w (w - 1) ∙ ap (λ (x : ℕ). bit_and (w / 2) x * 2 + min (w % 2) ((w - 1) % 2)) less in
        record {
          under_k = omega arith;
          there = bit_suc w (count_trailing_zeros k (w / 2)) ∙ l.there;
          rest = omega (arith, step, l.rest, pow-suc 2 (count_trailing_zeros k (w / 2)));
        }

    odd : w % 2 ≡ 1 → Least (suc k) w 0
    odd e =
        let less : (w - 1) / 2 ≡ w / 2 = omega arith in
        let step : bit_and w (w - 1) ≡ w / 2 * 2 + min (w % 2) ((w - 1) % 2) =
        and_step w (w - 1) ∙ ap (λ (x : ℕ). bit_and (w / 2) x * 2 + min (w % 2) ((w - 1) % 2)) less
        ∙ ap (λ (x : ℕ). x * 2 + min (w % 2) ((w - 1) % 2)) (and_self (w / 2)) in
        record { under_k = zero-lt-suc k; there = bit_zero w ∙ e; rest = omega (arith, step) }

    go : (d : ℕ) → w % 2 ≡ d → (0 < w / 2 → Least k (w / 2) (count_trailing_zeros k (w / 2)))
        → Least (suc k) w (under d (count_trailing_zeros k (w / 2)))
    go zero e ih = even e (ih (omega arith))
    go (suc d) e ih = odd (omega arith)

pub lowest_le : (w : ℕ) → lowest w ≤ 64
unfolding lowest
lowest_le w = trailing_le 64 w

pub bit_below_lowest : (w i : ℕ) → i < lowest w → bit w i ≡ 0
unfolding lowest
bit_below_lowest w i h = none_below 64 w i h

-- the least path is below every other
pub lowest_first : (w i : ℕ) → Has w i → lowest w ≤ i
lowest_first w i h = go (dec_lt i (lowest w))
  where
    go : Dec (i < lowest w) → lowest w ≤ i
    go (yes l) = absurd (not_has (bit_below_lowest w i l) h)
    go (no n) = omega arith

module _ (w : ℕ) (some : 0 < w) (fits : w < 2 ^ 64) where
  pub lowest_lt : lowest w < 64
  unfolding lowest
  lowest_lt = (least 64 w some fits).under_k

  pub has_lowest : Has w (lowest w)
  unfolding lowest
  has_lowest = record { one = (least 64 w some fits).there }

  -- the word and the word below it have all but the least path in common
  pub without_lowest_and : bit_and w (w - 1) ≡ without_lowest w
  unfolding lowest without_lowest
  without_lowest_and = omega (arith, (least 64 w some fits).rest, without_old w (lowest w) has_lowest)

  pub without_lowest_less : without_lowest w < w
  unfolding without_lowest
  without_lowest_less = omega (arith, without_old w (lowest w) has_lowest, pow_pos (lowest w))

pub bit_without_lowest_same : (w : ℕ) → bit (without_lowest w) (lowest w) ≡ 0
unfolding without_lowest
bit_without_lowest_same w = bit_without_same w (lowest w)

pub bit_without_lowest_other : (w i : ℕ) → i ≢ lowest w → bit (without_lowest w) i ≡ bit w i
unfolding without_lowest
bit_without_lowest_other w i n = bit_without_other w (lowest w) i n

pub has_without_lowest : (w i : ℕ) → Has (without_lowest w) i ↔ (i ≢ lowest w) × Has w i
unfolding without_lowest
has_without_lowest w i = has_without w (lowest w) i

pub without_lowest_lt : (w : ℕ) → w < 2 ^ 64 → without_lowest w < 2 ^ 64
unfolding without_lowest
without_lowest_lt w h = without_lt w (lowest w) h

pub without_lowest_of_zero : without_lowest 0 ≡ 0
unfolding without_lowest
without_lowest_of_zero = without_absent 0 (lowest 0) (bit_of_zero (lowest 0))
