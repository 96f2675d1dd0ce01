-- The words from which a document is made: the highest member, what members give gathered, the paths above one.
use Prim.Native.Nat.{ℕ, zero, suc, ◌-◌, ◌/◌, ◌^◌, ◌≤◌, ◌<◌}
use mathlib.Core.Path.{◌≡◌, refl, subst}
use mathlib.Core.Logic.{◌⊎◌, inl, inr, ◌↔◌}
use mathlib.Core.Bool.{Bool, true, false}
use native.Mathlib.Nat.{div-lt_iff_lt-mul, pow-suc}
use native.Mathlib.Decide.{dec_lt, ℕ_discrete}
use native.Mathlib.Omega.{arith}
use lib.Dec.{eqb}
use lib.Pow.{pow_pos}
use lib.Count.{leading_unique}
use borrow.Author.Tests.{eqb-true, eqb-false}
use Rattle.files.specs.Sets.{bit, Has, with_path, union, lowest, without_lowest, size}
use Rattle.files.proofs.SetBits.{bit_small, bit_past, bit_of_zero, not_has, has_with, has_union, union_lt}
use Rattle.files.proofs.SetLowest.{has_lowest, has_without_lowest, without_lowest_lt}
use Rattle.files.proofs.SetMembers.{size_without_lowest}
use Rattle.documents.specs.Paths.{Below, same, Descending}
use Rattle.documents.proofs.Paths.{below_trans, below_step, below_zero, parent_below, parent_fuel, parent_le}
use Rattle.theory.specs.Handed.{highest, gather, climb_all}

-- a set has nothing in common with the empty one
pub has_none : {i : ℕ} → Has 0 i → ⊥
has_none {i} h = not_has (bit_of_zero i) h

-- a set that has a path is not empty
pub has_positive : (w x : ℕ) → Has w x → 0 < w
has_positive w x h = pick (ℕ_discrete w 0)
  where
    pick : Dec (w ≡ 0) → 0 < w
    pick (yes e) = absurd (has_none (subst (λ (z : ℕ). Has z x) e h))
    pick (no n) = omega arith

-- a word of x + 1 digits without path x has x digits
pub top_absent : (w x : ℕ) → w < 2 ^ suc x → bit w x ≡ 0 → w < 2 ^ x
unfolding bit
top_absent w x l e =
    let q : w / 2 ^ x < 2 = (div-lt_iff_lt-mul (pow_pos x)).1 (omega (arith, pow-suc 2 x)) in
    let r : w / 2 ^ x < 1 = omega (arith, e) in
    omega (arith, (div-lt_iff_lt-mul (pow_pos x)).0 r)

-- a word whose members are below n is below 2 ^ n
pub members_under : (k n w : ℕ) → w < 2 ^ k → n ≤ k → ((i : ℕ) → Has w i → i < n) → w < 2 ^ n
members_under zero n w l h m = let e : n ≡ 0 = omega arith in rw e l
members_under (suc k) n w l h m = pick (ℕ_discrete n (suc k)) (λ s. members_under k n w (top_absent w k l s))
  where
    gone : n ≤ k → bit w k ≡ 0
    gone g = out (ℕ_discrete (bit w k) 1)
      where
        out : Dec (bit w k ≡ 1) → bit w k ≡ 0
        out (yes e) = absurd (omega (arith, m k (record { one = e })))
        out (no e) = omega (arith, bit_small w k)

    pick : Dec (n ≡ suc k) → (bit w k ≡ 0 → n ≤ k → ((i : ℕ) → Has w i → i < n) → w < 2 ^ n) → w < 2 ^ n
    pick (yes e) again = rw e l
    pick (no e) again = again (gone (omega arith)) (omega arith) m

-- a member has its power in the word
has_power : (w x : ℕ) → Has w x → 2 ^ x ≤ w
has_power w x h = pick (dec_lt w (2 ^ x))
  where
    pick : Dec (w < 2 ^ x) → 2 ^ x ≤ w
    pick (yes l) = absurd (not_has (bit_past w x x l (omega arith)) h)
    pick (no l) = omega arith

-- the member above which there is none is the highest
pub highest_is : (w x : ℕ) → x < 64 → w < 2 ^ suc x → Has w x → highest w ≡ x
unfolding highest
highest_is w x l u h =
    omega (arith, leading_unique 64 w (63 - x) (suc x) (omega arith) u (omega (arith, has_power w x h, pow-suc 2 x)))

-- y is among what f gives for a member of w
pub record Given (f : ℕ → ℕ) (w y : ℕ) : Type 0 where
  pub source : ℕ
  pub member : Has w source
  pub has : Has (f source) y

module _ (f : ℕ → ℕ) where
  pub gather_small : (fuel w s : ℕ) → w < 2 ^ 64 → s < 2 ^ 64 → ((x : ℕ) → Has w x → f x < 2 ^ 64) → gather f fuel w s < 2 ^ 64
  unfolding gather
  gather_small zero w s l h k = h
  gather_small (suc fuel) w s l h k = pick (eqb w 0) refl (λ m. gather_small fuel (without_lowest w) (union s (f (lowest w))) m)
    where
      pick : (b : Bool) → eqb w 0 ≡ b
          → (without_lowest w < 2 ^ 64 → union s (f (lowest w)) < 2 ^ 64 → ((x : ℕ) → Has (without_lowest w) x → f x < 2 ^ 64)
          → gather f fuel (without_lowest w) (union s (f (lowest w))) < 2 ^ 64)
          → gather f (suc fuel) w s < 2 ^ 64
      pick true e again = rw (e, gather) h
      pick false e again =
          rw (e, gather) (again (without_lowest_lt w l)
          (union_lt s (f (lowest w)) h (k (lowest w) (has_lowest w (omega (arith, eqb-false w 0 e)) l)))
          (λ x m. k x ((has_without_lowest w x).0 m).1))

  -- what is gathered: what was there and what f gives for a member
  pub gather_iff : (fuel w s y : ℕ) → w < 2 ^ 64 → size w ≤ fuel → Has (gather f fuel w s) y ↔ (Has s y ⊎ Given f w y)
  unfolding gather
  gather_iff zero w s y l h = (inl, old)
    where
      empty : w ≡ 0
      empty = pick (ℕ_discrete w 0)
        where
          pick : Dec (w ≡ 0) → w ≡ 0
          pick (yes e) = e
          pick (no n) = absurd (omega (arith, size_without_lowest w (omega arith) l))

      old : Has s y ⊎ Given f w y → Has s y
      old (inl k) = k
      old (inr g) = absurd (has_none (subst (λ (z : ℕ). Has z g.source) empty g.member))
  gather_iff (suc fuel) w s y l h = pick (eqb w 0) refl (λ m. gather_iff fuel (without_lowest w) (union s (f (lowest w))) y m)
    where
      old : w ≡ 0 → Has s y ⊎ Given f w y → Has s y
      old e (inl k) = k
      old e (inr g) = absurd (has_none (subst (λ (z : ℕ). Has z g.source) e g.member))

      out : Has w (lowest w) → Has (union s (f (lowest w))) y ⊎ Given f (without_lowest w) y → Has s y ⊎ Given f w y
      out m (inl k) = split ((has_union s (f (lowest w)) y).0 k)
        where
          split : Has s y ⊎ Has (f (lowest w)) y → Has s y ⊎ Given f w y
          split (inl k) = inl k
          split (inr k) = inr (record { source = lowest w; member = m; has = k })
      out m (inr g) = inr (record { source = g.source; member = ((has_without_lowest w g.source).0 g.member).1; has = g.has })

      into : Has s y ⊎ Given f w y → Has (union s (f (lowest w))) y ⊎ Given f (without_lowest w) y
      into (inl k) = inl ((has_union s (f (lowest w)) y).1 (inl k))
      into (inr g) = split (ℕ_discrete g.source (lowest w))
        where
          split : Dec (g.source ≡ lowest w) → Has (union s (f (lowest w))) y ⊎ Given f (without_lowest w) y
          split (yes e) = inl ((has_union s (f (lowest w)) y).1 (inr (subst (λ (z : ℕ). Has (f z) y) e g.has)))
          split (no n) =
              inr (record { source = g.source; member = (has_without_lowest w g.source).1 (n, g.member); has = g.has })

      pick : (b : Bool) → eqb w 0 ≡ b
          → (without_lowest w < 2 ^ 64 → size (without_lowest w) ≤ fuel
          → Has (gather f fuel (without_lowest w) (union s (f (lowest w)))) y
          ↔ (Has (union s (f (lowest w))) y ⊎ Given f (without_lowest w) y))
          → Has (gather f (suc fuel) w s) y ↔ (Has s y ⊎ Given f w y)
      pick true e again = rw (e, gather) (inl, old (eqb-true w 0 e))
      pick false e again =
          let p : 0 < w = omega (arith, eqb-false w 0 e) in
          let r = again (without_lowest_lt w l) (omega (arith, size_without_lowest w p l)) in
          rw (e, gather) (λ k. out (has_lowest w p l) (r.0 k), λ k. r.1 (into k))

module _ {parent : ℕ → ℕ} (desc : Descending parent) where
  -- the paths at or above x join
  pub climb_iff : (fuel x w y : ℕ) → x ≤ fuel → x < 64 → Has (climb_all parent fuel x w) y ↔ (Has w y ⊎ Below parent y x)
  unfolding climb_all
  climb_iff zero x w y l h =
      let e : x ≡ 0 = omega arith in
      let k = has_with w x y h in
      (λ m. out (k.0 m), λ m. k.1 (into e m))
    where
      out : (y ≡ x) ⊎ Has w y → Has w y ⊎ Below parent y x
      out (inl e) = inr (same e)
      out (inr m) = inl m

      into : x ≡ 0 → Has w y ⊎ Below parent y x → (y ≡ x) ⊎ Has w y
      into e (inl m) = inr m
      into e (inr b) = inl (omega (arith, below_zero desc (subst (λ (z : ℕ). Below parent y z) e b)))
  climb_iff (suc fuel) x w y l h =
      pick (eqb x 0) refl
      (climb_iff fuel (parent x) (with_path w x) y (parent_fuel desc x fuel l) (omega (arith, parent_le desc x)))
    where
      out : (y ≡ 0) ⊎ Has w y → x ≡ 0 → Has w y ⊎ Below parent y x
      out (inl p) e = inr (same {x = x} (omega arith))
      out (inr m) e = inl m

      into : x ≡ 0 → Has w y ⊎ Below parent y x → (y ≡ 0) ⊎ Has w y
      into e (inl m) = inr m
      into e (inr b) = inl (below_zero desc (subst (λ (z : ℕ). Below parent y z) e b))

      up_out : Has (with_path w x) y ⊎ Below parent y (parent x) → Has w y ⊎ Below parent y x
      up_out (inl m) = split ((has_with w x y h).0 m)
        where
          split : (y ≡ x) ⊎ Has w y → Has w y ⊎ Below parent y x
          split (inl e) = inr (same e)
          split (inr k) = inl k
      up_out (inr b) = inr (below_trans b (parent_below x))

      up_into : Has w y ⊎ Below parent y x → Has (with_path w x) y ⊎ Below parent y (parent x)
      up_into (inl m) = inl ((has_with w x y h).1 (inr m))
      up_into (inr b) = split (below_step b)
        where
          split : (y ≡ x) ⊎ Below parent y (parent x) → Has (with_path w x) y ⊎ Below parent y (parent x)
          split (inl e) = inl ((has_with w x y h).1 (inl e))
          split (inr k) = inr k

      pick : (b : Bool) → eqb x 0 ≡ b
          → Has (climb_all parent fuel (parent x) (with_path w x)) y ↔ (Has (with_path w x) y ⊎ Below parent y (parent x))
          → Has (climb_all parent (suc fuel) x w) y ↔ (Has w y ⊎ Below parent y x)
      pick true e again =
          rw (e, climb_all) (
            λ m. out ((has_with w 0 y (omega arith)).0 m) (eqb-true x 0 e),
            λ m. (has_with w 0 y (omega arith)).1 (into (eqb-true x 0 e) m),
          )
      pick false e again = rw (e, climb_all) (λ m. up_out (again.0 m), λ m. again.1 (up_into m))
