-- The word of a part's children says which children 01 gives it.
use Prim.Native.Nat.{ℕ, ◌^◌, ◌<◌}
use mathlib.Core.Path.{◌≡◌, refl, sym, ap, subst, ◌∙◌}
use mathlib.Core.Logic.{◌⊎◌, inl, inr, ◌↔◌}
use mathlib.Core.Bool.{Bool, true, false, false≢true}
use mathlib.Core.List.Memᴰ
use mathlib.Core.List.{
  List,
  [],
  ◌∷◌,
  ◌++◌,
  Memᴰ,
}
use lib.Dec.{T, eqb, T_not, not_T}
use borrow.Author.Tests.{eqb-true, eqb-false}
use Rattle.files.specs.Sets.{Has, hasb, without_path}
use Rattle.files.proofs.SetBits.{has_without}
use Rattle.files.proofs.SetMembers.{size_le}
use Rattle.documents.specs.Paths.{towards}
use Rattle.theory.specs.Parts.{Part, someb, meet_all, child_for, child_for_all, own_each, own_kids, coversb, lacksb}
use Rattle.theory.specs.Handed.{word_reach, reach_all}
use Rattle.theory.proofs.Reachable.{T-hasb}
use Rattle.theory.proofs.Fill.{Some, someb_some, some_someb}
use Rattle.theory.proofs.HandedWords.{has_none, gather_iff, Given}

-- a word is the set of the goals of a list
pub record GoalWord (goals : List ℕ) (w : ℕ) : Type 0 where
  pub small : w < 2 ^ 64
  pub is : (g : ℕ) → Has w g ↔ Memᴰ g goals

-- a child: the one with all goals, if `handed`, or one with a goal of w
pub data KidBy (parent : ℕ → ℕ) (c : ℕ) (goals : List ℕ) (handed : Bool) (w : ℕ) (k : Part) : Type 0 where
  all : handed ≡ true → k ≡ child_for_all parent c goals → KidBy parent c goals handed w k
  alone : (h : ℕ) → Has w h → k ≡ child_for parent c h → KidBy parent c goals handed w k

-- when a part on c hands all its goals to one child: above their context, unless there is one goal
pub data Mode (parent : ℕ → ℕ) (c : ℕ) (goals : List ℕ) (top : ℕ) : Bool → Type 0 where
  on_way : (c ≡ meet_all parent goals → ⊥) → top ≡ meet_all parent goals → Mode parent c goals top true
  meeting : c ≡ meet_all parent goals → Mode parent c goals top false
  single : (g : ℕ) → goals ≡ g ∷ [] → Mode parent c goals top false

-- the own goal of a child
record OwnGoal (parent : ℕ → ℕ) (c : ℕ) (goals : List ℕ) (k : Part) : Type 0 where
  goal : ℕ
  listed : Memᴰ goal goals
  other : goal ≡ c → ⊥
  is : k ≡ child_for parent c goal

own_iff : (parent : ℕ → ℕ) (c : ℕ) (goals : List ℕ) (k : Part) → Memᴰ k (own_each parent c goals) ↔ OwnGoal parent c goals k
unfolding own_each
own_iff parent c [] k = (λ m. absurd (Memᴰ.not-nil m), λ o. absurd (Memᴰ.not-nil o.listed))
own_iff parent c (g ∷ more) k = pick (eqb g c) refl (own_iff parent c more k)
  where
    later : OwnGoal parent c more k → OwnGoal parent c (g ∷ more) k
    later o = record { goal = o.goal; listed = Memᴰ.tail o.listed; other = o.other; is = o.is }

    earlier : (o : OwnGoal parent c (g ∷ more) k) → Memᴰ o.goal more → OwnGoal parent c more k
    earlier o m = record { goal = o.goal; listed = m; other = o.other; is = o.is }

    passed : (o : OwnGoal parent c (g ∷ more) k) → g ≡ c → (o.goal ≡ g) ⊎ Memᴰ o.goal more → OwnGoal parent c more k
    passed o e (inl p) = absurd (o.other (p ∙ e))
    passed o e (inr m) = earlier o m

    split : eqb g c ≡ false → (Memᴰ k (own_each parent c more) → OwnGoal parent c more k)
        → (k ≡ child_for parent c g) ⊎ Memᴰ k (own_each parent c more) → OwnGoal parent c (g ∷ more) k
    split e again (inl p) = record { goal = g; listed = Memᴰ.head refl; other = eqb-false g c e; is = p }
    split e again (inr m) = later (again m)

    join : (o : OwnGoal parent c (g ∷ more) k) → (OwnGoal parent c more k → Memᴰ k (own_each parent c more))
        → (o.goal ≡ g) ⊎ Memᴰ o.goal more → Memᴰ k (child_for parent c g ∷ own_each parent c more)
    join o again (inl p) = Memᴰ.head (o.is ∙ ap (child_for parent c) p)
    join o again (inr m) = Memᴰ.tail (again (earlier o m))

    pick : (b : Bool) → eqb g c ≡ b → Memᴰ k (own_each parent c more) ↔ OwnGoal parent c more k
        → Memᴰ k (own_each parent c (g ∷ more)) ↔ OwnGoal parent c (g ∷ more) k
    pick true e again =
        rw (e, own_each) (
          λ m. later (again.0 m),
          λ o. again.1 (passed o (eqb-true g c e) (Memᴰ.cases_cons o.listed)),
        )
    pick false e again =
        rw (e, own_each) (
          λ m. split e again.0 (Memᴰ.cases_cons m),
          λ o. join o again.1 (Memᴰ.cases_cons o.listed),
        )

-- the context of one goal is the goal
pub meet_one : (parent : ℕ → ℕ) (g : ℕ) → meet_all parent (g ∷ []) ≡ g
unfolding meet_all
meet_one parent g = refl

-- the word of the goals that have a child of their own to begin with
abbrev pub own_word : (c w : ℕ) (handed : Bool) → ℕ
own_word c w true = 0
own_word c w false = without_path w c

module _ {parent : ℕ → ℕ} {c w : ℕ} {goals : List ℕ} (word : GoalWord goals w) where
  own_words : (k : Part) → OwnGoal parent c goals k ↔ KidBy parent c goals false (without_path w c) k
  own_words k = (
    λ o. alone o.goal ((has_without w c o.goal).1 (o.other, (word.is o.goal).1 o.listed)) o.is,
    back,
  )
    where
      back : KidBy parent c goals false (without_path w c) k → OwnGoal parent c goals k
      back (all e p) = absurd (false≢true e)
      back (alone h m p) =
          let r = (has_without w c h).0 m in
          record { goal = h; listed = (word.is h).0 r.1; other = r.0; is = p }

  -- the goals' own children
  pub own_kids_lem : {top : ℕ} {handed : Bool} → Mode parent c goals top handed → (k : Part)
      → Memᴰ k (own_kids parent c goals) ↔ KidBy parent c goals handed (own_word c w handed) k
  unfolding own_kids
  own_kids_lem (on_way n t) k = pick (eqb c (meet_all parent goals)) refl
    where
      out : KidBy parent c goals true 0 k → Memᴰ k (child_for_all parent c goals ∷ [])
      out (all e p) = Memᴰ.head p
      out (alone h m p) = absurd (has_none m)

      pick : (b : Bool) → eqb c (meet_all parent goals) ≡ b → Memᴰ k (own_kids parent c goals) ↔ KidBy parent c goals true 0 k
      pick true e = absurd (n (eqb-true c (meet_all parent goals) e))
      pick false e = rw (e, own_kids) (λ m. all refl (Memᴰ.eq_of_singleton m), out)
  own_kids_lem (meeting t) k = pick (eqb c (meet_all parent goals)) refl
    where
      pick : (b : Bool) → eqb c (meet_all parent goals) ≡ b
          → Memᴰ k (own_kids parent c goals) ↔ KidBy parent c goals false (without_path w c) k
      pick true e =
          let o = own_iff parent c goals k in
          let r = own_words k in
          rw (e, own_kids) (λ m. r.0 (o.0 m), λ b. o.1 (r.1 b))
      pick false e = absurd (eqb-false c (meet_all parent goals) e t)
  own_kids_lem (single g s) k = pick (eqb c (meet_all parent goals)) refl
    where
      meet_is : meet_all parent goals ≡ g
      meet_is = ap (meet_all parent) s ∙ meet_one parent g

      child_is : child_for_all parent c goals ≡ child_for parent c g
      child_is = λ i. record { path = towards parent c (meet_is i); goals = s i }

      only : (h : ℕ) → Memᴰ h goals → h ≡ g
      only h m = Memᴰ.eq_of_singleton (subst (λ (l : List ℕ). Memᴰ h l) s m)

      here : Memᴰ g goals
      here = subst (λ (l : List ℕ). Memᴰ g l) (sym s) (Memᴰ.head refl)

      out : (g ≡ c → ⊥) → KidBy parent c goals false (without_path w c) k → k ≡ child_for_all parent c goals
      out n (all e p) = p
      out n (alone h m p) = p ∙ ap (child_for parent c) (only h ((word.is h).0 ((has_without w c h).0 m).1)) ∙ sym child_is

      pick : (b : Bool) → eqb c (meet_all parent goals) ≡ b
          → Memᴰ k (own_kids parent c goals) ↔ KidBy parent c goals false (without_path w c) k
      pick true e =
          let o = own_iff parent c goals k in
          let r = own_words k in
          rw (e, own_kids) (λ m. r.0 (o.0 m), λ b. o.1 (r.1 b))
      pick false e =
          let n : g ≡ c → ⊥ = λ p. eqb-false c (meet_all parent goals) e (sym (meet_is ∙ p)) in
          rw (e, own_kids) (
            λ m. alone g ((has_without w c g).1 (n, (word.is g).1 here)) (Memᴰ.eq_of_singleton m ∙ child_is),
            λ b. Memᴰ.head (out n b),
          )

module _ (parent : ℕ → ℕ) (R : ℕ → ℕ → ℕ) where
  -- what a part covers
  pub covers_word : {goals : List ℕ} {w : ℕ} → GoalWord goals w → (count c x : ℕ)
      → T (coversb (word_reach R) (record { path = c; goals = goals }) x) ↔ Has (reach_all parent count R c w) x
  unfolding coversb reach_all
  covers_word {goals} {w} word count c x =
      let r = gather_iff (λ g. R c g) 64 w 0 x word.small (size_le w) in (
        λ t.
            let s = someb_some (λ g. hasb (R c g) x) goals t in
            r.1 (inr (record {
              source = s.member;
              member = (word.is s.member).1 s.listed;
              has = (T-hasb (R c s.member) x).0 s.passes;
            })),
        λ h. out (r.0 h),
      )
    where
      out : Has 0 x ⊎ Given (λ g. R c g) w x → T (someb (λ g. hasb (R c g) x) goals)
      out (inl h) = absurd (has_none h)
      out (inr g) =
          some_someb (λ g. hasb (R c g) x) g.source ((word.is g.source).0 g.member) ((T-hasb (R c g.source) x).1 g.has)

  -- what a child with one goal covers
  pub covers_one : (c h x : ℕ) → T (coversb (word_reach R) (child_for parent c h) x) ↔ Has (R (towards parent c h) h) x
  unfolding coversb
  covers_one c h x = (
    λ t.
        let s = someb_some (λ g. hasb (R (towards parent c h) g) x) (h ∷ []) t in
        subst (λ (z : ℕ). Has (R (towards parent c h) z) x) (Memᴰ.eq_of_singleton s.listed)
        ((T-hasb (R (towards parent c h) s.member) x).0 s.passes),
    λ m. some_someb (λ g. hasb (R (towards parent c h) g) x) h (Memᴰ.head refl) ((T-hasb (R (towards parent c h) h) x).1 m),
  )

module _ (reach : ℕ → ℕ → ℕ → Bool) (a : Part) where
  -- x gets a child exactly if it is another path, is reached, and no child covers it
  pub lacks_iff : (chosen : List Part) (x : ℕ) → T (lacksb reach a chosen x)
      ↔ ((a.path ≡ x → ⊥) × T (coversb reach a x) × (T (someb (λ k. coversb reach k x) chosen) → ⊥))
  unfolding lacksb
  lacks_iff chosen x = pick (eqb a.path x) refl (coversb reach a x) refl
    where
      pick : (b : Bool) → eqb a.path x ≡ b → (t : Bool) → coversb reach a x ≡ t → T (lacksb reach a chosen x)
          ↔ ((a.path ≡ x → ⊥) × T (coversb reach a x) × (T (someb (λ k. coversb reach k x) chosen) → ⊥))
      pick true e t f = (λ k. absurd (rw (lacksb, e) at k), λ k. absurd (k.0 (eqb-true a.path x e)))
      pick false e true f = (
        λ k. (eqb-false a.path x e, rw f tt, T_not (someb (λ k. coversb reach k x) chosen) (rw (lacksb, e, f) at k)),
        λ k. rw (lacksb, e, f) (not_T (someb (λ k. coversb reach k x) chosen) k.2),
      )
      pick false e false f = (λ k. absurd (rw (lacksb, e, f) at k), λ k. absurd (rw f at k.1))

-- a test passes on a list with one member more
pub snoc_iff : (test : Part → Bool) (l : List Part) (k : Part) → T (someb test (l ++ (k ∷ []))) ↔ (T (someb test l) ⊎ T (test k))
snoc_iff test l k = (λ t. let s = someb_some test (l ++ (k ∷ [])) t in out s (Memᴰ.append_cases l s.listed), into)
  where
    out : (s : Some test (l ++ (k ∷ []))) → Memᴰ s.member l ⊎ Memᴰ s.member (k ∷ []) → T (someb test l) ⊎ T (test k)
    out s (inl m) = inl (some_someb test s.member m s.passes)
    out s (inr m) = inr (subst (λ (z : Part). T (test z)) (Memᴰ.eq_of_singleton m) s.passes)

    into : T (someb test l) ⊎ T (test k) → T (someb test (l ++ (k ∷ [])))
    into (inl t) = let s = someb_some test l t in some_someb test s.member (Memᴰ.append_left (k ∷ []) s.listed) s.passes
    into (inr t) = some_someb test k (Memᴰ.append_right l (Memᴰ.head refl)) t
