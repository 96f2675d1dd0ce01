-- Laws of sets of paths, in terms of `bit w i`: what each operation on words does to every path.
use Prim.Native.Nat.{ℕ, zero, suc, ◌+◌, ◌-◌, ◌*◌, ◌/◌, ◌%◌, ◌^◌, ◌≤◌, ◌<◌, min, max}
use mathlib.Core.Path.{◌≡◌, refl, sym, ap, ap₂, subst, ◌∙◌}
use mathlib.Core.Logic.{◌↔◌, ◌≢◌, ◌⊎◌, inl, inr, ⊎_elim}
use mathlib.Core.Bool.{true, false}
use native.Mathlib.Nat.{le_refl, lt_of_le_of_lt, lt_of_lt_of_le, zero-lt-suc, sub-le, pow-suc, pow-succ', mod-lt, zero-div, div-one, div_self, div-eq_of_lt, div-div-eq-div-mul}
use native.Mathlib.Decide.{dec_lt, ℕ_discrete}
use native.Mathlib.Omega.{arith}
use lib.Pow.{pow_pos, pow_mono, pow-lt, pow-add, ones_lt}
use lib.Bits.{bit_and, bit_or, and_step, or_step, and_shr, or_shr, and_le_l, and_le_r, or_lt, or_add_and, and_high}
use borrow.Author.Tests.{lt-ltb, le-ltb, eq-eqb, ne_eqb, eqb-true, eqb-false}
use Rattle.files.specs.Sets.{bit, Has, hasb, with_path, without_path, union, common, difference, below_all}

-- ---- one bit

two_pos : 0 < 2
two_pos = zero-lt-suc 1

pub bit_zero : (w : ℕ) → bit w 0 ≡ w % 2
unfolding bit
bit_zero w = ap (λ (x : ℕ). x % 2) (div-one w)

pub bit_suc : (w i : ℕ) → bit w (suc i) ≡ bit (w / 2) i
unfolding bit
bit_suc w i =
    ap (λ (x : ℕ). w / x % 2) (pow-succ' 2 i) ∙ ap (λ (x : ℕ). x % 2) (sym (div-div-eq-div-mul w 2 (2 ^ i)))

pub bit_small : (w i : ℕ) → bit w i < 2
unfolding bit
bit_small w i = mod-lt (w / 2 ^ i) two_pos

pub bit_cases : (w i : ℕ) → Has w i ⊎ (bit w i ≡ 0)
bit_cases w i = go (bit w i) refl
  where
    go : (d : ℕ) → bit w i ≡ d → Has w i ⊎ (bit w i ≡ 0)
    go zero e = inr e
    go (suc d) e = inl (record { one = omega (arith, bit_small w i) })

pub not_has : {w i : ℕ} → bit w i ≡ 0 → ¬ Has w i
not_has e h = omega arith

pub bit_absent : (w i : ℕ) → ¬ Has w i → bit w i ≡ 0
bit_absent w i n = ⊎_elim (λ (h : Has w i). absurd (n h)) (λ (e : bit w i ≡ 0). e) (bit_cases w i)

pub dec_has : (w i : ℕ) → Dec (Has w i)
dec_has w i = ⊎_elim (λ (h : Has w i). yes h) (λ (e : bit w i ≡ 0). no (not_has e)) (bit_cases w i)

pub bit_of_zero : (i : ℕ) → bit 0 i ≡ 0
unfolding bit
bit_of_zero i = ap (λ (x : ℕ). x % 2) (zero-div (2 ^ i))

-- a word of k digits has no path from k on
pub bit_past : (w k i : ℕ) → w < 2 ^ k → k ≤ i → bit w i ≡ 0
unfolding bit
bit_past w k i h l = ap (λ (x : ℕ). x % 2) (div-eq_of_lt (lt_of_lt_of_le h (pow_mono l)))

pub has_under : (w k i : ℕ) → w < 2 ^ k → Has w i → i < k
has_under w k i h m = go (dec_lt i k)
  where
    go : Dec (i < k) → i < k
    go (yes l) = l
    go (no n) = absurd (not_has (bit_past w k i h (omega arith)) m)

-- ---- whether a path is in the set, as a test

pub hasb_true : (w i : ℕ) → hasb w i ≡ true → Has w i
unfolding hasb
hasb_true w i e = record { one = eqb-true (bit w i) 1 e }

pub hasb_false : (w i : ℕ) → hasb w i ≡ false → bit w i ≡ 0
unfolding hasb
hasb_false w i e = bit_absent w i (λ h. eqb-false (bit w i) 1 e h.one)

pub hasb_has : (w i : ℕ) → Has w i → hasb w i ≡ true
unfolding hasb
hasb_has w i h = eq-eqb (bit w i) 1 h.one

pub hasb_absent : (w i : ℕ) → bit w i ≡ 0 → hasb w i ≡ false
unfolding hasb
hasb_absent w i e = ne_eqb (bit w i) 1 (λ (q : bit w i ≡ 1). omega arith)

-- ---- two words are the same set where their bits are the same

pub same_bits : (k a b : ℕ) → a < 2 ^ k → b < 2 ^ k → ((i : ℕ) → i < k → bit a i ≡ bit b i) → a ≡ b
same_bits zero a b ha hb e = omega arith
same_bits (suc k) a b ha hb e =
    let low : a % 2 ≡ b % 2 = sym (bit_zero a) ∙ e 0 (zero-lt-suc k) ∙ bit_zero b in
    let high : a / 2 ≡ b / 2 =
    same_bits k (a / 2) (b / 2) (omega (arith, pow-suc 2 k)) (omega (arith, pow-suc 2 k))
    (λ i h. sym (bit_suc a i) ∙ e (suc i) (omega arith) ∙ bit_suc b i) in
    omega arith

pub same_sets : (a b : ℕ) → a < 2 ^ 64 → b < 2 ^ 64 → ((i : ℕ) → i < 64 → Has a i ↔ Has b i) → a ≡ b
same_sets a b ha hb e = same_bits 64 a b ha hb (λ i h. go i (e i h) (bit_cases a i) (bit_cases b i))
  where
    go : (i : ℕ) → Has a i ↔ Has b i → Has a i ⊎ (bit a i ≡ 0) → Has b i ⊎ (bit b i ≡ 0) → bit a i ≡ bit b i
    go i f (inl p) (inl q) = omega arith
    go i f (inl p) (inr q) = absurd (not_has q (f.0 p))
    go i f (inr p) (inl q) = absurd (not_has p (f.1 q))
    go i f (inr p) (inr q) = omega arith

-- ---- union, common, difference

or_low : (a b : ℕ) → bit_or a b % 2 ≡ max (a % 2) (b % 2)
or_low a b = omega (arith, or_step a b)

and_low : (a b : ℕ) → bit_and a b % 2 ≡ min (a % 2) (b % 2)
and_low a b = omega (arith, and_step a b)

pub bit_union : (a b i : ℕ) → bit (union a b) i ≡ max (bit a i) (bit b i)
unfolding bit union
bit_union a b i = ap (λ (x : ℕ). x % 2) (or_shr a b i) ∙ or_low (a / 2 ^ i) (b / 2 ^ i)

pub bit_common : (a b i : ℕ) → bit (common a b) i ≡ min (bit a i) (bit b i)
unfolding bit common
bit_common a b i = ap (λ (x : ℕ). x % 2) (and_shr a b i) ∙ and_low (a / 2 ^ i) (b / 2 ^ i)

difference_low : (a b : ℕ) → difference a b % 2 ≡ a % 2 - b % 2
unfolding difference
difference_low a b = omega (arith, and_step a b, and_le_l (a / 2) (b / 2))

difference_half : (a b : ℕ) → difference a b / 2 ≡ difference (a / 2) (b / 2)
unfolding difference
difference_half a b = omega (arith, and_step a b, and_le_l (a / 2) (b / 2))

pub bit_difference : (a b i : ℕ) → bit (difference a b) i ≡ bit a i - bit b i
bit_difference a b zero = bit_zero (difference a b) ∙ difference_low a b ∙ ap₂ ◌-◌ (sym (bit_zero a)) (sym (bit_zero b))
bit_difference a b (suc i) =
    bit_suc (difference a b) i ∙ ap (λ (x : ℕ). bit x i) (difference_half a b) ∙ bit_difference (a / 2) (b / 2) i
    ∙ ap₂ ◌-◌ (sym (bit_suc a i)) (sym (bit_suc b i))

pub has_union : (a b i : ℕ) → Has (union a b) i ↔ Has a i ⊎ Has b i
has_union a b i = (λ h. go h (bit_cases a i), ⊎_elim (λ (h : Has a i). made (omega arith)) (λ (h : Has b i). made (omega arith)))
  where
    go : Has (union a b) i → Has a i ⊎ (bit a i ≡ 0) → Has a i ⊎ Has b i
    go h (inl p) = inl p
    go h (inr e) = inr (record { one = omega (arith, bit_union a b i) })

    made : 1 ≤ max (bit a i) (bit b i) → Has (union a b) i
    made l = record { one = omega (arith, bit_union a b i, bit_small (union a b) i) }

pub has_common : (a b i : ℕ) → Has (common a b) i ↔ Has a i × Has b i
has_common a b i = (
  λ h. (record { one = omega (arith, bit_common a b i, bit_small a i) }, record { one = omega (arith, bit_common a b i, bit_small b i) }),
  λ h. record { one = omega (arith, bit_common a b i, h.0.one, h.1.one) },
)

pub has_difference : (a b i : ℕ) → Has (difference a b) i ↔ Has a i × (bit b i ≡ 0)
has_difference a b i = (
  λ h. (record { one = omega (arith, bit_difference a b i, bit_small a i) }, omega (arith, bit_difference a b i, bit_small a i)),
  λ h. record { one = omega (arith, bit_difference a b i, h.0.one, h.1) },
)

pub union_lt : (a b : ℕ) → a < 2 ^ 64 → b < 2 ^ 64 → union a b < 2 ^ 64
unfolding union
union_lt a b = or_lt 64 a b

pub union_ge : (a b : ℕ) → a ≤ union a b
unfolding union
union_ge a b = omega (arith, or_add_and a b, and_le_r a b)

pub common_le : (a b : ℕ) → common a b ≤ a
unfolding common
common_le a b = and_le_l a b

pub common_lt : (a b : ℕ) → a < 2 ^ 64 → common a b < 2 ^ 64
common_lt a b h = lt_of_le_of_lt (common_le a b) h

pub difference_le : (a b : ℕ) → difference a b ≤ a
unfolding difference
difference_le a b = sub-le a (bit_and a b)

pub difference_lt : (a b : ℕ) → a < 2 ^ 64 → difference a b < 2 ^ 64
difference_lt a b h = lt_of_le_of_lt (difference_le a b) h

-- ---- one path more or less

pub bit_pow_same : (i : ℕ) → bit (2 ^ i) i ≡ 1
unfolding bit
bit_pow_same i = ap (λ (x : ℕ). x % 2) (div_self (pow_pos i))

pow_half : (i : ℕ) → 2 ^ suc i / 2 ≡ 2 ^ i
pow_half i = omega (arith, pow-suc 2 i)

pub bit_pow_other : (i j : ℕ) → j ≢ i → bit (2 ^ i) j ≡ 0
bit_pow_other zero zero n = absurd (n refl)
bit_pow_other zero (suc j) n = bit_suc 1 j ∙ bit_of_zero j
bit_pow_other (suc i) zero n = bit_zero (2 ^ suc i) ∙ omega (arith, pow-suc 2 i)
bit_pow_other (suc i) (suc j) n =
    bit_suc (2 ^ suc i) j ∙ ap (λ (x : ℕ). bit x j) (pow_half i) ∙ bit_pow_other i j (λ e. n (ap suc e))

-- the word's digit i, in its place
and_pow : (w i : ℕ) → bit_and w (2 ^ i) ≡ bit w i * 2 ^ i
unfolding bit
and_pow w i =
    let here : 2 ^ (1 + i) - 2 ^ i ≡ 2 ^ i = omega (arith, pow-add 2 1 i) in
    ap (bit_and w) (sym here) ∙ and_high w 1 i

and_one : (w i : ℕ) → Has w i → bit_and w (2 ^ i) ≡ 2 ^ i
and_one w i h = and_pow w i ∙ ap (λ (x : ℕ). x * 2 ^ i) h.one ∙ omega arith

and_none : (w i : ℕ) → bit w i ≡ 0 → bit_and w (2 ^ i) ≡ 0
and_none w i e = and_pow w i ∙ ap (λ (x : ℕ). x * 2 ^ i) e ∙ omega arith

pub with_new : (w i : ℕ) → i < 64 → bit w i ≡ 0 → with_path w i ≡ w + 2 ^ i
unfolding with_path
with_new w i h e = rw (lt-ltb i 64 h, hasb_absent w i e)

pub with_old : (w i : ℕ) → i < 64 → Has w i → with_path w i ≡ w
unfolding with_path
with_old w i h m = rw (lt-ltb i 64 h, hasb_has w i m)

pub with_past : (w i : ℕ) → 64 ≤ i → with_path w i ≡ w
unfolding with_path
with_past w i h = rw (le-ltb i 64 h)

pub with_is_union : (w i : ℕ) → i < 64 → with_path w i ≡ union w (2 ^ i)
unfolding union
with_is_union w i h = go (bit_cases w i)
  where
    go : Has w i ⊎ (bit w i ≡ 0) → with_path w i ≡ bit_or w (2 ^ i)
    go (inl m) = omega (arith, with_old w i h m, and_one w i m, or_add_and w (2 ^ i))
    go (inr e) = omega (arith, with_new w i h e, and_none w i e, or_add_and w (2 ^ i))

pub bit_with_same : (w i : ℕ) → i < 64 → bit (with_path w i) i ≡ 1
bit_with_same w i h = rw (with_is_union w i h) (omega (arith, bit_union w (2 ^ i) i, bit_pow_same i, bit_small w i))

pub bit_with_other : (w i j : ℕ) → j ≢ i → bit (with_path w i) j ≡ bit w j
bit_with_other w i j n = go (dec_lt i 64)
  where
    go : Dec (i < 64) → bit (with_path w i) j ≡ bit w j
    go (yes h) = rw (with_is_union w i h) (omega (arith, bit_union w (2 ^ i) j, bit_pow_other i j n))
    go (no l) = ap (λ (x : ℕ). bit x j) (with_past w i (omega arith))

pub has_with : (w i j : ℕ) → i < 64 → Has (with_path w i) j ↔ (j ≡ i) ⊎ Has w j
has_with w i j h = (λ m. go m (ℕ_discrete j i), ⊎_elim same (kept (ℕ_discrete j i)))
  where
    go : Has (with_path w i) j → Dec (j ≡ i) → (j ≡ i) ⊎ Has w j
    go m (yes e) = inl e
    go m (no n) = inr (record { one = sym (bit_with_other w i j n) ∙ m.one })

    same : j ≡ i → Has (with_path w i) j
    same e = record { one = ap (bit (with_path w i)) e ∙ bit_with_same w i h }

    kept : Dec (j ≡ i) → Has w j → Has (with_path w i) j
    kept (yes e) m = same e
    kept (no n) m = record { one = bit_with_other w i j n ∙ m.one }

pub with_ge : (w i : ℕ) → w ≤ with_path w i
with_ge w i = go (dec_lt i 64)
  where
    go : Dec (i < 64) → w ≤ with_path w i
    go (yes h) = rw (with_is_union w i h) (union_ge w (2 ^ i))
    go (no l) = rw (with_past w i (omega arith)) (le_refl w)

pub with_lt : (w i : ℕ) → w < 2 ^ 64 → with_path w i < 2 ^ 64
with_lt w i f = go (dec_lt i 64)
  where
    go : Dec (i < 64) → with_path w i < 2 ^ 64
    go (yes h) = rw (with_is_union w i h) (union_lt w (2 ^ i) f (pow-lt h))
    go (no l) = rw (with_past w i (omega arith)) f

pub without_old : (w i : ℕ) → Has w i → without_path w i ≡ w - 2 ^ i
unfolding without_path
without_old w i m = rw (hasb_has w i m)

pub without_absent : (w i : ℕ) → bit w i ≡ 0 → without_path w i ≡ w
unfolding without_path
without_absent w i e = rw (hasb_absent w i e)

pub without_is_difference : (w i : ℕ) → without_path w i ≡ difference w (2 ^ i)
unfolding difference
without_is_difference w i = go (bit_cases w i)
  where
    go : Has w i ⊎ (bit w i ≡ 0) → without_path w i ≡ w - bit_and w (2 ^ i)
    go (inl m) = omega (arith, without_old w i m, and_one w i m)
    go (inr e) = omega (arith, without_absent w i e, and_none w i e)

pub bit_without_same : (w i : ℕ) → bit (without_path w i) i ≡ 0
bit_without_same w i =
    rw (without_is_difference w i) (omega (arith, bit_difference w (2 ^ i) i, bit_pow_same i, bit_small w i))

pub bit_without_other : (w i j : ℕ) → j ≢ i → bit (without_path w i) j ≡ bit w j
bit_without_other w i j n = rw (without_is_difference w i) (omega (arith, bit_difference w (2 ^ i) j, bit_pow_other i j n))

pub has_without : (w i j : ℕ) → Has (without_path w i) j ↔ (j ≢ i) × Has w j
has_without w i j = (λ m. let n = other m in (n, record { one = sym (bit_without_other w i j n) ∙ m.one }), back)
  where
    other : Has (without_path w i) j → j ≢ i
    other m e = not_has (bit_without_same w i) (subst (Has (without_path w i)) e m)

    back : (j ≢ i) × Has w j → Has (without_path w i) j
    back h = record { one = bit_without_other w i j h.0 ∙ h.1.one }

pub without_le : (w i : ℕ) → without_path w i ≤ w
without_le w i = rw (without_is_difference w i) (difference_le w (2 ^ i))

pub without_lt : (w i : ℕ) → w < 2 ^ 64 → without_path w i < 2 ^ 64
without_lt w i h = lt_of_le_of_lt (without_le w i) h

-- ---- the paths below a number

bit_ones : (k i : ℕ) → i < k → bit (2 ^ k - 1) i ≡ 1
bit_ones zero i h = omega arith
bit_ones (suc k) zero h = bit_zero (2 ^ suc k - 1) ∙ omega (arith, pow-suc 2 k, pow_pos k)
bit_ones (suc k) (suc i) h =
    let half : (2 ^ suc k - 1) / 2 ≡ 2 ^ k - 1 = omega (arith, pow-suc 2 k, pow_pos k) in
    bit_suc (2 ^ suc k - 1) i ∙ ap (λ (x : ℕ). bit x i) half ∙ bit_ones k i (omega arith)

pub bit_below_in : (x i : ℕ) → i < x → i < 64 → bit (below_all x) i ≡ 1
unfolding below_all
bit_below_in x i h l = bit_ones (min x 64) i (omega arith)

pub bit_below_out : (x i : ℕ) → x ≤ i → bit (below_all x) i ≡ 0
unfolding below_all
bit_below_out x i h = bit_past (2 ^ min x 64 - 1) (min x 64) i (ones_lt (min x 64)) (omega arith)

pub below_lt : (x : ℕ) → below_all x < 2 ^ 64
unfolding below_all
below_lt x = lt_of_lt_of_le (ones_lt (min x 64)) (pow_mono {i = min x 64} {j = 64} (omega arith))

pub has_below : (x i : ℕ) → Has (below_all x) i ↔ (i < x) × (i < 64)
has_below x i = (λ h. (go h (dec_lt i x), has_under (below_all x) 64 i (below_lt x) h), λ h. record { one = bit_below_in x i h.0 h.1 })
  where
    go : Has (below_all x) i → Dec (i < x) → i < x
    go h (yes l) = l
    go h (no n) = absurd (not_has (bit_below_out x i (omega arith)) h)
