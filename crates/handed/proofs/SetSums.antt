-- Sums over the members of sets, and what a set's members give where only some of them give anything.
use Prim.Native.Nat.{ℕ, zero, suc, ◌+◌}
use mathlib.Core.Path.{◌≡◌, refl, sym, ap, ap₂, ◌∙◌}
use mathlib.Core.Logic.{◌⊎◌, inl, inr}
use mathlib.Core.List.{List, [], ◌∷◌, ◌++◌, Memᴰ}
use native.Mathlib.Omega.{arith}
use lib.Bits.{and_comm}
use lib.ListN.{length, length-append}
use Rattle.files.specs.Sets.{bit, Has, common, size, members_from, members}
use Rattle.files.proofs.SetBits.{bit_cases, bit_absent, not_has, has_common}
use Rattle.files.proofs.SetMembers.{from_zero, from_has, from_absent, size_members}
use Rattle.theory.specs.Handed.{each_of}

-- ---- sums

-- the sum of what f gives for the members of a list
unfoldable pub total : (f : ℕ → ℕ) → List ℕ → ℕ
total f [] = 0
total f (k ∷ rest) = f k + total f rest

pub total_same : (f g : ℕ → ℕ) (l : List ℕ) → ((k : ℕ) → Memᴰ k l → f k ≡ g k) → total f l ≡ total g l
unfolding total
total_same f g [] h = refl
total_same f g (k ∷ l) h = ap₂ ◌+◌ (h k (Memᴰ.head refl)) (total_same f g l (λ x m. h x (Memᴰ.tail m)))

pub total_plus : (f g : ℕ → ℕ) (l : List ℕ) → total (λ k. f k + g k) l ≡ total f l + total g l
unfolding total
total_plus f g [] = refl
total_plus f g (k ∷ l) = omega (arith, total_plus f g l)

pub total_ones : (l : List ℕ) → total (λ k. 1) l ≡ length l
unfolding total
total_ones [] = refl
total_ones (k ∷ l) = omega (arith, total_ones l)

total_none : (l : List ℕ) → total (λ k. 0) l ≡ 0
unfolding total
total_none [] = refl
total_none (k ∷ l) = omega (arith, total_none l)

pub total_swap : (f : ℕ → ℕ → ℕ) (l m : List ℕ) → total (λ k. total (f k) m) l ≡ total (λ x. total (λ k. f k x) l) m
unfolding total
total_swap f [] m = sym (total_none m)
total_swap f (k ∷ l) m =
    ap (λ (n : ℕ). total (f k) m + n) (total_swap f l m) ∙ sym (total_plus (f k) (λ x. total (λ y. f y x) l) m)

pub total_length : (f : ℕ → List ℕ) (l : List ℕ) → length (each_of f l) ≡ total (λ k. length (f k)) l
unfolding total each_of
total_length f [] = refl
total_length f (k ∷ l) = omega (arith, length-append (f k) (each_of f l), total_length f l)

-- ---- members of two sets

both_absent : (a s k : ℕ) → (bit a k ≡ 0) ⊎ (bit s k ≡ 0) → bit (common a s) k ≡ 0
both_absent a s k (inl e) = bit_absent (common a s) k (λ m. not_has e ((has_common a s k).0 m).0)
both_absent a s k (inr e) = bit_absent (common a s) k (λ m. not_has e ((has_common a s k).0 m).1)

module _ (a s : ℕ) where
  bits_from : (n k : ℕ) → total (bit a) (members_from n k s) ≡ length (members_from n k (common a s))
  unfolding total
  bits_from zero k = ap (total (bit a)) (from_zero s k) ∙ sym (ap length (from_zero (common a s) k))
  bits_from (suc n) k = pick (bit_cases s k) (bit_cases a k) (bits_from n (suc k))
    where
      pick : Has s k ⊎ (bit s k ≡ 0) → Has a k ⊎ (bit a k ≡ 0)
          → total (bit a) (members_from n (suc k) s) ≡ length (members_from n (suc k) (common a s))
          → total (bit a) (members_from (suc n) k s) ≡ length (members_from (suc n) k (common a s))
      pick (inl h) (inl g) again =
          ap (total (bit a)) (from_has s n k h) ∙ omega (arith, g.one, again) ∙ sym (ap length (from_has (common a s) n k ((has_common a s k).1 (g, h))))
      pick (inl h) (inr g) again =
          ap (total (bit a)) (from_has s n k h) ∙ omega (arith, g, again) ∙ sym (ap length (from_absent (common a s) n k (both_absent a s k (inl g))))
      pick (inr h) g again =
          ap (total (bit a)) (from_absent s n k h) ∙ again ∙ sym (ap length (from_absent (common a s) n k (both_absent a s k (inr h))))

  -- how many members of a set are in another
  pub total_bits : total (bit a) (members s) ≡ size (common a s)
  unfolding members
  total_bits = bits_from 64 0 ∙ sym (size_members (common a s))

  module _ (f : ℕ → List ℕ) (none : (k : ℕ) → Has s k → bit a k ≡ 0 → f k ≡ []) where
    each_from : (n k : ℕ) → each_of f (members_from n k (common a s)) ≡ each_of f (members_from n k s)
    unfolding each_of
    each_from zero k = ap (each_of f) (from_zero (common a s) k ∙ sym (from_zero s k))
    each_from (suc n) k = pick (bit_cases s k) (bit_cases a k) (each_from n (suc k))
      where
        pick : Has s k ⊎ (bit s k ≡ 0) → Has a k ⊎ (bit a k ≡ 0)
            → each_of f (members_from n (suc k) (common a s)) ≡ each_of f (members_from n (suc k) s)
            → each_of f (members_from (suc n) k (common a s)) ≡ each_of f (members_from (suc n) k s)
        pick (inl h) (inl g) again =
            ap (each_of f) (from_has (common a s) n k ((has_common a s k).1 (g, h))) ∙ ap (λ (l : List ℕ). f k ++ l) again
            ∙ sym (ap (each_of f) (from_has s n k h))
        pick (inl h) (inr g) again =
            ap (each_of f) (from_absent (common a s) n k (both_absent a s k (inl g))) ∙ again
            ∙ sym (ap (λ (l : List ℕ). l ++ each_of f (members_from n (suc k) s)) (none k h g)) ∙ sym (ap (each_of f) (from_has s n k h))
        pick (inr h) g again =
            ap (each_of f) (from_absent (common a s) n k (both_absent a s k (inr h))) ∙ again ∙ sym (ap (each_of f) (from_absent s n k h))

    -- the members that give nothing may be left out
    pub each_common : each_of f (members (common a s)) ≡ each_of f (members s)
    unfolding members
    each_common = each_from 64 0

-- a set whose members are each in exactly one of several sets
pub total_sizes : (set_of : ℕ → ℕ) (l : List ℕ) (w : ℕ) → ((x : ℕ) → Memᴰ x (members w) → total (λ k. bit (set_of k) x) l ≡ 1)
    → total (λ k. size (common w (set_of k))) l ≡ size w
unfolding common
total_sizes set_of l w one =
    total_same (λ k. size (common w (set_of k))) (λ k. total (bit (set_of k)) (members w)) l
    (λ k m. ap size (and_comm w (set_of k)) ∙ sym (total_bits (set_of k) w))
    ∙ total_swap (λ k x. bit (set_of k) x) l (members w)
    ∙ total_same (λ x. total (λ k. bit (set_of k) x) l) (λ x. 1) (members w) one
    ∙ total_ones (members w) ∙ sym (size_members w)
