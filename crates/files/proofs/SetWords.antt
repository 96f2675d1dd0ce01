-- What the code's operations on 64-bit words compute, by the names of specs/Sets.antt: a law for each place where a function returns.
use Prim.Native.Nat.{ℕ, zero, suc, ◌+◌, ◌-◌, ◌*◌, ◌/◌, ◌%◌, ◌^◌, ◌≤◌, ◌<◌, min}
use mathlib.Core.Path.{◌≡◌, refl, sym, ap, ap₂, ◌∙◌}
use mathlib.Core.Bool.{false}
use native.Mathlib.Nat.{zero-lt-suc, pos_of_ne-zero, one-mul, add_comm, mod-one, mod-lt, mod-eq_of_lt, min-eq_left, min-eq_right, le_of_lt}
use native.Mathlib.Decide.{dec_lt}
use native.Mathlib.Numerals.{one-add}
use native.Mathlib.Omega.{arith}
use lib.Dec.{lit<}
use lib.Pow.{pow_pos, shl_exact, mod-pow-add}
use lib.Bits.{bit_and, bit_or, and_mask}
use lib.Count.{ones, ones_cat, count_trailing_zeros}
use Rattle.files.specs.Sets.{bit, hasb, with_path, without_path, union, difference, below_all, lowest, without_lowest, size_below, size, UpTo64}
use Rattle.files.proofs.SetBits.{bit_small, bit_past, hasb_absent, with_is_union, without_is_difference, without_absent}
use Rattle.files.proofs.SetLowest.{lowest_le, without_lowest_of_zero, without_lowest_and}
use Rattle.files.proofs.SetMembers.{size_below_zero, size_below_suc, size_below_all, size_below_past, size_below_le_size, size_le}

pub has_past : (w x : ℕ) → w < 2 ^ 64 → 64 ≤ x → false ≡ hasb w x
has_past w x f h = sym (hasb_absent w x (bit_past w 64 x f h))

-- `1 << x`
shl_one : (x : ℕ) → x < 64 → (1 * 2 ^ x) % 2 ^ 64 ≡ 2 ^ x
shl_one x h = shl_exact {a = 1} 1 x 64 (lit< tt) (omega arith) ∙ one-mul (2 ^ x)

pub with_or : (w x : ℕ) → x < 64 → bit_or w ((1 * 2 ^ x) % 2 ^ 64) ≡ with_path w x
unfolding union
with_or w x h = ap (bit_or w) (shl_one x h) ∙ sym (with_is_union w x h)

pub without_and : (w x : ℕ) → x < 64 → w - bit_and w ((1 * 2 ^ x) % 2 ^ 64) ≡ without_path w x
unfolding difference
without_and w x h = ap (λ (y : ℕ). w - bit_and w y) (shl_one x h) ∙ sym (without_is_difference w x)

pub without_past : (w x : ℕ) → w < 2 ^ 64 → 64 ≤ x → w ≡ without_path w x
without_past w x f h = sym (without_absent w x (bit_past w 64 x f h))

pub below_pos : (x : ℕ) → x < 64 → 1 ≤ (1 * 2 ^ x) % 2 ^ 64
below_pos x h = omega (arith, shl_one x h, pow_pos x)

pub below_shl : (x : ℕ) → x < 64 → (1 * 2 ^ x) % 2 ^ 64 - 1 ≡ below_all x
unfolding below_all
below_shl x h = ap (λ (y : ℕ). y - 1) (shl_one x h ∙ ap (λ (k : ℕ). 2 ^ k) (sym (min-eq_left (le_of_lt h))))

pub below_past : (x : ℕ) → 64 ≤ x → 2 ^ 64 - 1 ≡ below_all x
unfolding below_all
below_past x h = ap (λ (k : ℕ). 2 ^ k - 1) (sym (min-eq_right h))

pub lowest_trailing : (w : ℕ) → UpTo64 (lowest w) (count_trailing_zeros 64 w)
unfolding lowest
lowest_trailing w = record { is = refl; small = lowest_le w }

pub without_lowest_none : (w : ℕ) → w ≡ 0 → 0 ≡ without_lowest w
without_lowest_none w e = sym (ap without_lowest e ∙ without_lowest_of_zero)

pub without_lowest_some : (w : ℕ) → w < 2 ^ 64 → (w ≡ 0 → ⊥) → bit_and w (w - 1) ≡ without_lowest w
without_lowest_some w f n = without_lowest_and w (pos_of_ne-zero n) f

ones_bit : (d : ℕ) → d < 2 → ones d ≡ d
unfolding ones
ones_bit zero h = refl
ones_bit (suc zero) h = refl
ones_bit (suc (suc d)) h = absurd (omega arith)

size_below_ones : (w i : ℕ) → ones (w % 2 ^ i) ≡ size_below w i
unfolding bit
size_below_ones w zero = ap ones (mod-one w) ∙ ones_bit 0 (zero-lt-suc 1) ∙ sym (size_below_zero w)
size_below_ones w (suc i) =
    ap (λ (k : ℕ). ones (w % 2 ^ k)) (sym (one-add i)) ∙ ap ones (mod-pow-add w 1 i) ∙ joined (size_below_ones w i)
    ∙ sym (size_below_suc w i)
  where
    joined : ones (w % 2 ^ i) ≡ size_below w i → ones ((w / 2 ^ i % 2) * 2 ^ i + w % 2 ^ i) ≡ size_below w i + bit w i
    joined e =
        ones_cat i (w / 2 ^ i % 2) (w % 2 ^ i) (mod-lt w (pow_pos i)) ∙ ap₂ ◌+◌ (ones_bit (bit w i) (bit_small w i)) e
        ∙ add_comm (bit w i) (size_below w i)

pub size_ones : (w : ℕ) → w < 2 ^ 64 → UpTo64 (size w) (ones w)
size_ones w f =
    let e : ones w ≡ size w = ap ones (sym (mod-eq_of_lt f)) ∙ size_below_ones w 64 ∙ size_below_all w in
    record { is = e; small = omega (arith, size_le w) }

pub size_below_and : (w x r : ℕ) → w < 2 ^ 64 → r ≡ below_all x → UpTo64 (size_below w x) (ones (bit_and w r))
unfolding below_all
size_below_and w x r f e =
    let is : ones (bit_and w r) ≡ size_below w x =
    ap (λ (y : ℕ). ones (bit_and w y)) e ∙ ap ones (and_mask w (min x 64)) ∙ size_below_ones w (min x 64) ∙ cut (dec_lt x 64) in
    record { is = is; small = omega (arith, size_below_le_size w x f, size_le w) }
  where
    cut : Dec (x < 64) → size_below w (min x 64) ≡ size_below w x
    cut (yes h) = ap (size_below w) (min-eq_left (le_of_lt h))
    cut (no n) =
        let h : 64 ≤ x = omega arith in
        ap (size_below w) (min-eq_right h) ∙ size_below_all w ∙ sym (size_below_past w x f h)
