-- At most 64 parts stand on the paths of one depth: their goals are disjoint sets.
use Prim.Native.Nat.{ℕ, zero, suc, ◌+◌, ◌≤◌, ◌<◌}
use mathlib.Core.Path.{◌≡◌, refl, sym, subst, ◌∙◌}
use mathlib.Core.Logic.{◌⊎◌, inl, inr}
use mathlib.Core.Bool.{Bool, true, false}
use mathlib.Core.List.{List, [], ◌∷◌, map, Memᴰ}
use native.Mathlib.Omega.{arith}
use lib.ListN.{length, length-append, length-map}
use Rattle.files.specs.Sets.{bit, Has, with_path, union, size_below, size, members}
use Rattle.files.proofs.SetBits.{bit_cases, bit_absent, has_with, has_union, bit_union}
use Rattle.files.proofs.SetMembers.{size_of_zero, size_below_zero, size_below_suc, size_le, size_members, size_with}
use Rattle.documents.specs.Paths.{Below, Descending, depth_of}
use Rattle.documents.proofs.Paths.{below_zero, prefix_depth}
use Rattle.theory.specs.Order.{Sorted}
use Rattle.theory.specs.Handed.{each_of, only_if}
use Rattle.theory.proofs.HandedWords.{has_none}
use Rattle.theory.proofs.HandedRows.{one_part}
use Rattle.theory.proofs.HandedOrder.{block}

-- ---- disjoint sets

-- sets without a common member have together as many as each
size_disjoint : (a b : ℕ) → ((i : ℕ) → Has a i → Has b i → ⊥) → size (union a b) ≡ size a + size b
unfolding size
size_disjoint a b apart = upto 64
  where
    upto : (n : ℕ) → size_below (union a b) n ≡ size_below a n + size_below b n
    upto zero = omega (arith, size_below_zero (union a b), size_below_zero a, size_below_zero b)
    upto (suc i) = pick (bit_cases a i) (bit_cases b i) (upto i)
      where
        pick : Has a i ⊎ (bit a i ≡ 0) → Has b i ⊎ (bit b i ≡ 0) → size_below (union a b) i ≡ size_below a i + size_below b i
            → size_below (union a b) (suc i) ≡ size_below a (suc i) + size_below b (suc i)
        pick (inl p) (inl q) e = absurd (apart i p q)
        pick (inl p) (inr q) e =
            omega (arith, bit_union a b i, p.one, size_below_suc (union a b) i, size_below_suc a i, size_below_suc b i)
        pick (inr p) (inl q) e =
            omega (arith, bit_union a b i, q.one, size_below_suc (union a b) i, size_below_suc a i, size_below_suc b i)
        pick (inr p) (inr q) e =
            omega (arith, bit_union a b i, size_below_suc (union a b) i, size_below_suc a i, size_below_suc b i)

-- the sets that f gives for a list, joined
union_of : (f : ℕ → ℕ) → List ℕ → ℕ
union_of f [] = 0
union_of f (c ∷ l) = union (f c) (union_of f l)

union_from : (f : ℕ → ℕ) (l : List ℕ) (i : ℕ) → Has (union_of f l) i → (c : ℕ) × Memᴰ c l × Has (f c) i
unfolding union_of
union_from f [] i h = absurd (has_none h)
union_from f (c ∷ l) i h = pick ((has_union (f c) (union_of f l) i).0 h) (union_from f l i)
  where
    pick : Has (f c) i ⊎ Has (union_of f l) i → (Has (union_of f l) i → (d : ℕ) × Memᴰ d l × Has (f d) i)
        → (d : ℕ) × Memᴰ d (c ∷ l) × Has (f d) i
    pick (inl k) again = (c, Memᴰ.head refl, k)
    pick (inr k) again = let r = again k in (r.0, Memᴰ.tail r.1, r.2)

-- lists whose lengths are the sizes of disjoint sets
each_disjoint : {A : Type 0} (f : ℕ → ℕ) (g : ℕ → List A) {l : List ℕ} → Sorted ◌<◌ l
    → ((c d i : ℕ) → Memᴰ c l → Memᴰ d l → c < d → Has (f c) i → Has (f d) i → ⊥)
    → ((c : ℕ) → Memᴰ c l → length (g c) ≡ size (f c)) → length (each_of g l) ≡ size (union_of f l)
unfolding each_of union_of
each_disjoint f g Sorted.none apart is = sym size_of_zero
each_disjoint f g (Sorted.next {a = c} {rest = l} h s) apart is =
    let again =
    each_disjoint f g s (λ x y i p q. apart x y i (Memᴰ.tail p) (Memᴰ.tail q)) (λ x p. is x (Memᴰ.tail p)) in
    let d = size_disjoint (f c) (union_of f l)
    (λ i p q. let r = union_from f l i q in apart c r.0 i (Memᴰ.head refl) (Memᴰ.tail r.1) (h r.0 r.1) p r.2) in
    length-append (g c) (each_of g l) ∙ omega (arith, is c (Memᴰ.head refl))

-- ---- blocks on paths of one depth

module _ {parent : ℕ → ℕ} (desc : Descending parent) where
  module _ (goals : List ℕ) (test : ℕ → Bool) (word : ℕ → ℕ) (top depth : ℕ) where
    -- the goals of a block, with the root for the part that has all goals
    mark : ℕ → ℕ
    mark c = elim (test c) [ true ↦ with_path (word c) 0 | false ↦ word c ]

    block_size : (c : ℕ) → bit (word c) 0 ≡ 0 → length (block goals (test c) (word c) c) ≡ size (mark c)
    unfolding mark block only_if
    block_size c e = pick (test c) refl
      where
        ones : length (map (one_part c) (members (word c))) ≡ size (word c)
        ones = length-map (members (word c)) (one_part c) ∙ sym (size_members (word c))

        pick : (b : Bool) → test c ≡ b → length (block goals (test c) (word c) c) ≡ size (mark c)
        pick true f = rw (f, mark) (omega (arith, ones, size_with (word c) 0 (omega arith) e))
        pick false f = rw (f, mark) ones

    mark_cases : (c i : ℕ) → Has (mark c) i → ((i ≡ 0) × (test c ≡ true)) ⊎ Has (word c) i
    unfolding mark
    mark_cases c i h = pick (test c) refl
      where
        first : test c ≡ true → (i ≡ 0) ⊎ Has (word c) i → ((i ≡ 0) × (test c ≡ true)) ⊎ Has (word c) i
        first f (inl e) = inl (e, f)
        first f (inr k) = inr k

        pick : (b : Bool) → test c ≡ b → ((i ≡ 0) × (test c ≡ true)) ⊎ Has (word c) i
        pick true f = first f ((has_with (word c) 0 i (omega arith)).0 (rw (f, mark) at h))
        pick false f = inr (rw (f, mark) at h)

    -- there are at most 64 parts on the paths of one depth
    pub blocks_few : {l : List ℕ} → Sorted ◌<◌ l → ((c : ℕ) → Memᴰ c l → (0 < c) × (depth_of parent c ≡ depth))
        → ((c : ℕ) → Memᴰ c l → test c ≡ true → Below parent c top)
        → ((c g : ℕ) → Memᴰ c l → Has (word c) g → Below parent c g)
        → length (each_of (λ c. block goals (test c) (word c) c) l) ≤ 64
    blocks_few {l} s on all one =
        omega (
          arith,
          each_disjoint mark (λ c. block goals (test c) (word c) c) s apart
              (λ c m. block_size c (bit_absent (word c) 0 (λ h. inner c m (one c 0 m h)))),
          size_le (union_of mark l),
        )
      where
        inner : (c : ℕ) → Memᴰ c l → Below parent c 0 → ⊥
        inner c m b = omega (arith, (on c m).0, below_zero desc b)

        clash : (c d i : ℕ) → Memᴰ c l → Memᴰ d l → c < d → ((i ≡ 0) × (test c ≡ true)) ⊎ Has (word c) i
            → ((i ≡ 0) × (test d ≡ true)) ⊎ Has (word d) i → ⊥
        clash c d i p q k (inl a) (inl b) =
            omega (arith, prefix_depth desc (all c p a.1) (all d q b.1) ((on c p).1 ∙ sym (on d q).1))
        clash c d i p q k (inl a) (inr b) = inner d q (one d 0 q (subst (Has (word d)) a.0 b))
        clash c d i p q k (inr a) (inl b) = inner c p (one c 0 p (subst (Has (word c)) b.0 a))
        clash c d i p q k (inr a) (inr b) = omega (arith, prefix_depth desc (one c i p a) (one d i q b) ((on c p).1 ∙ sym (on d q).1))

        apart : (c d i : ℕ) → Memᴰ c l → Memᴰ d l → c < d → Has (mark c) i → Has (mark d) i → ⊥
        apart c d i p q k a b = clash c d i p q k (mark_cases c i a) (mark_cases d i b)
