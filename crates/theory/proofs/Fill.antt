-- The choice of children, highest number first: a member of a list that passes a test, what is chosen, and that all is covered.
use Prim.Native.Nat.{ℕ, zero, suc, ◌<◌}
use mathlib.Core.Path.{◌≡◌, refl, sym, subst}
use mathlib.Core.Logic.{◌⊎◌, inl, inr}
use mathlib.Core.Bool.{Bool, true, false, true≢false, false≢true}
use mathlib.Core.List.Memᴰ
use mathlib.Core.List.{
  List,
  [],
  ◌∷◌,
  ◌++◌,
  Memᴰ,
}
use native.Mathlib.Omega.{arith}
use native.Mathlib.Decide.{dec_lt}
use lib.Dec.{T, eqb}
use Rattle.documents.proofs.Paths.{eqb-true, eqb-false}
use Rattle.theory.specs.Parts.{Part, someb, child_for, coversb, lacksb, fill}

-- a member that passes the test
pub record Some {A : Type 0} (test : A → Bool) (l : List A) : Type 0 where
  pub member : A
  pub listed : Memᴰ member l
  pub passes : T (test member)

module _ {A : Type 0} (test : A → Bool) where
  pub someb_some : (l : List A) → T (someb test l) → Some test l
  unfolding someb
  someb_some [] t = absurd t
  someb_some (a ∷ l) t = pick (test a) refl (someb_some l)
    where
      pick : (b : Bool) → test a ≡ b → (T (someb test l) → Some test l) → Some test (a ∷ l)
      pick true e again = record { member = a; listed = Memᴰ.head refl; passes = rw e tt }
      pick false e again =
          let s = again (rw (someb, e) at t) in
          record { member = s.member; listed = Memᴰ.tail s.listed; passes = s.passes }

  pub some_someb : (a : A) {l : List A} → Memᴰ a l → T (test a) → T (someb test l)
  unfolding someb
  some_someb a (Memᴰ.head {x = b} e) t = rw (subst (λ z. test z ≡ true) e (true_of (test a) t), someb) tt
    where
      true_of : (b : Bool) → T b → b ≡ true
      true_of true t = refl
      true_of false t = absurd t
  some_someb a (Memᴰ.tail {x = b} {xs = l} m) t = pick (test b) refl (some_someb a m t)
    where
      pick : (s : Bool) → test b ≡ s → T (someb test l) → T (someb test (b ∷ l))
      pick true e again = rw (e, someb) tt
      pick false e again = rw (e, someb) again

-- a child chosen for x, which the part reaches and which is not the part's own path
pub record Chosen (parent : ℕ → ℕ) (reach : ℕ → ℕ → ℕ → Bool) (a : Part) (left : ℕ) (k : Part) : Type 0 where
  pub goal : ℕ
  pub small : goal < left
  pub other : a.path ≡ goal → ⊥
  pub reached : T (coversb reach a goal)
  pub is : k ≡ child_for parent a.path goal

module _ (parent : ℕ → ℕ) (reach : ℕ → ℕ → ℕ → Bool) (a : Part) where
  pub lacks_so : (chosen : List Part) (x : ℕ) → lacksb reach a chosen x ≡ true → (a.path ≡ x → ⊥) × T (coversb reach a x)
  unfolding lacksb
  lacks_so chosen x e = pick (eqb a.path x) (coversb reach a x) refl refl
    where
      pick : (s t : Bool) → eqb a.path x ≡ s → coversb reach a x ≡ t → (a.path ≡ x → ⊥) × T (coversb reach a x)
      pick true t f g = absurd (false≢true (rw (lacksb, f) at e))
      pick false true f g = (eqb-false a.path x f, rw g tt)
      pick false false f g = absurd (false≢true (rw (lacksb, f, g) at e))

  pub lacks_not : (chosen : List Part) (x : ℕ) → lacksb reach a chosen x ≡ false → (a.path ≡ x → ⊥) → T (coversb reach a x)
      → T (someb (λ k. coversb reach k x) chosen)
  unfolding lacksb
  lacks_not chosen x e n t = pick (eqb a.path x) (coversb reach a x) (someb (λ k. coversb reach k x) chosen) refl refl refl
    where
      pick : (s t u : Bool) → eqb a.path x ≡ s → coversb reach a x ≡ t → someb (λ k. coversb reach k x) chosen ≡ u
          → T (someb (λ k. coversb reach k x) chosen)
      pick true t u f g h = absurd (n (eqb-true a.path x f))
      pick false true true f g h = rw h tt
      pick false true false f g h = absurd (true≢false (rw (lacksb, f, g, h) at e))
      pick false false u f g h = absurd (rw g at t)

  pub fill_keeps : (left : ℕ) (chosen : List Part) (k : Part) → Memᴰ k chosen → Memᴰ k (fill parent reach a left chosen)
  unfolding fill
  fill_keeps zero chosen k m = m
  fill_keeps (suc x) chosen k m =
      pick (lacksb reach a chosen x) refl (fill_keeps x (chosen ++ (child_for parent a.path x ∷ [])) k (Memᴰ.append_left _ m))
      (fill_keeps x chosen k m)
    where
      pick : (b : Bool) → lacksb reach a chosen x ≡ b
          → Memᴰ k (fill parent reach a x (chosen ++ (child_for parent a.path x ∷ []))) → Memᴰ k (fill parent reach a x chosen)
          → Memᴰ k (fill parent reach a (suc x) chosen)
      pick true e more less = rw (e, fill) more
      pick false e more less = rw (e, fill) less

  pub fill_cases : (left : ℕ) (chosen : List Part) (k : Part) → Memᴰ k (fill parent reach a left chosen)
      → Memᴰ k chosen ⊎ Chosen parent reach a left k
  unfolding fill
  fill_cases zero chosen k m = inl m
  fill_cases (suc x) chosen k m =
      pick (lacksb reach a chosen x) refl (fill_cases x (chosen ++ (child_for parent a.path x ∷ [])) k) (fill_cases x chosen k)
    where
      wider : Chosen parent reach a x k → Chosen parent reach a (suc x) k
      wider c = record { goal = c.goal; small = omega (arith, c.small); other = c.other; reached = c.reached; is = c.is }

      old : Memᴰ k chosen ⊎ Chosen parent reach a x k → Memᴰ k chosen ⊎ Chosen parent reach a (suc x) k
      old (inl m) = inl m
      old (inr c) = inr (wider c)

      last : lacksb reach a chosen x ≡ true → Memᴰ k chosen ⊎ Memᴰ k (child_for parent a.path x ∷ [])
          → Memᴰ k chosen ⊎ Chosen parent reach a (suc x) k
      last e (inl m) = inl m
      last e (inr m) =
          let l = lacks_so chosen x e in
          inr (record { goal = x; small = omega arith; other = l.0; reached = l.1; is = Memᴰ.eq_of_singleton m })

      new : lacksb reach a chosen x ≡ true → Memᴰ k (chosen ++ (child_for parent a.path x ∷ [])) ⊎ Chosen parent reach a x k
          → Memᴰ k chosen ⊎ Chosen parent reach a (suc x) k
      new e (inl m) = last e (Memᴰ.append_cases chosen m)
      new e (inr c) = inr (wider c)

      pick : (b : Bool) → lacksb reach a chosen x ≡ b
          → (Memᴰ k (fill parent reach a x (chosen ++ (child_for parent a.path x ∷ [])))
          → Memᴰ k (chosen ++ (child_for parent a.path x ∷ [])) ⊎ Chosen parent reach a x k)
          → (Memᴰ k (fill parent reach a x chosen) → Memᴰ k chosen ⊎ Chosen parent reach a x k)
          → Memᴰ k chosen ⊎ Chosen parent reach a (suc x) k
      pick true e more less = new e (more (rw (fill, e) at m))
      pick false e more less = old (less (rw (fill, e) at m))

  -- every path below `left` that the part reaches is covered in the end
  pub fill_covers : (left : ℕ) (chosen : List Part) (x : ℕ) → x < left → (a.path ≡ x → ⊥) → T (coversb reach a x)
      → T (coversb reach (child_for parent a.path x) x) → T (someb (λ k. coversb reach k x) (fill parent reach a left chosen))
  unfolding fill
  fill_covers zero chosen x l n t own = absurd (omega arith)
  fill_covers (suc y) chosen x l n t own =
      pick (lacksb reach a chosen y) refl
      (λ h. fill_covers y (chosen ++ (child_for parent a.path y ∷ [])) x h n t own) (λ h. fill_covers y chosen x h n t own)
    where
      kept : (ks : List Part) → T (someb (λ k. coversb reach k x) ks) → T (someb (λ k. coversb reach k x) (fill parent reach a y ks))
      kept ks c =
          let s = someb_some (λ k. coversb reach k x) ks c in
          some_someb (λ k. coversb reach k x) s.member (fill_keeps y ks s.member s.listed) s.passes

      onto : (ks : List Part) → Dec (x < y) → (x < y → T (someb (λ k. coversb reach k x) (fill parent reach a y ks)))
          → (x ≡ y → T (someb (λ k. coversb reach k x) ks)) → T (someb (λ k. coversb reach k x) (fill parent reach a y ks))
      onto ks (yes h) again here = again h
      onto ks (no h) again here = kept ks (here (omega arith))

      pick : (b : Bool) → lacksb reach a chosen y ≡ b
          → (x < y → T (someb (λ k. coversb reach k x) (fill parent reach a y (chosen ++ (child_for parent a.path y ∷ [])))))
          → (x < y → T (someb (λ k. coversb reach k x) (fill parent reach a y chosen)))
          → T (someb (λ k. coversb reach k x) (fill parent reach a (suc y) chosen))
      pick true e more less =
          rw (e, fill) (onto (chosen ++ (child_for parent a.path y ∷ [])) (dec_lt x y) more
          (λ p. subst (λ (z : ℕ). T (someb (λ k. coversb reach k x) (chosen ++ (child_for parent a.path z ∷ [])))) p
          (some_someb (λ k. coversb reach k x) (child_for parent a.path x) (Memᴰ.append_right chosen (Memᴰ.head refl)) own)))
      pick false e more less =
          rw (e, fill) (onto chosen (dec_lt x y) less
          (λ p. lacks_not chosen x (subst (λ (z : ℕ). lacksb reach a chosen z ≡ false) (sym p) e) n t))
