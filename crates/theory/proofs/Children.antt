-- The children computed for a part are those that 01's words give it, and no others are: so a document written down in these
-- words is the one that the computed children give.
use Prim.Native.Nat.{ℕ, zero, suc, ◌+◌, ◌≤◌, ◌<◌}
use mathlib.Core.Path.{◌≡◌, refl, sym, ap, subst, ◌∙◌}
use mathlib.Core.Logic.{◌⊎◌, inl, inr}
use mathlib.Core.Bool.{Bool, true, false, false≢true}
use mathlib.Core.List.Memᴰ
use mathlib.Core.List.{
  List,
  [],
  ◌∷◌,
  ◌++◌,
  Memᴰ,
}
use native.Mathlib.Decide.{ℕ_discrete}
use native.Mathlib.Omega.{arith}
use lib.Dec.{T, eqb}
use Rattle.files.specs.Table.{Rule}
use Rattle.documents.specs.Paths.{Below, StrictlyBelow, Descending, towards}
use Rattle.documents.specs.Parts.{Named, given, further}
use Rattle.documents.specs.PartList.{Entry}
use Rattle.documents.proofs.Paths.{eqb-true, eqb-false, below_trans, below_le, below_antisym, strictly_lt, towards_parent, towards_strictly, towards_below, towards_highest}
use Rattle.theory.specs.Parts.{Part, RulesIn, Decides, someb, meet_all, child_for, own_each, own_kids, coversb, lacksb, fill, kids_of, part_zero}
use Rattle.theory.specs.Children.{Towards, ChildFor, GoalsContext, OwnChild, each, all, Covers, GetsChild, ChildrenOf}
use Rattle.theory.specs.Order.{Matches, LaysDown, WritesParts, WritesDocument}
use Rattle.theory.proofs.Completeness.{named_goals}
use Rattle.theory.proofs.Fill.{someb_some, some_someb, lacks_so, lacks_not, fill_keeps}
use Rattle.theory.proofs.Kids.{Goals, alone, own_each_lem, meet_above, meet_longest, any_small, any_strictly, covers_any, kid_goals, kids_are}

-- ---- the paths chosen, computed

module _ (parent : ℕ → ℕ) (reach : ℕ → ℕ → ℕ → Bool) (a : Part) where
  -- the paths below `left` that get a child, highest number first
  unfoldable picks : (left : ℕ) (chosen : List Part) → List ℕ
  picks zero chosen = []
  picks (suc x) chosen =
      elim (lacksb reach a chosen x) [
        | true ↦ x ∷ picks x (chosen ++ (child_for parent a.path x ∷ []))
        | false ↦ picks x chosen
      ]

  -- x is picked: the part reaches it, and neither a child chosen before nor that of a higher path covers it
  record Picked (left : ℕ) (chosen : List Part) (xs : List ℕ) (x : ℕ) : Type 0 where
    low : x < left
    other : a.path ≡ x → ⊥
    reached : T (coversb reach a x)
    before : (k : Part) → Memᴰ k chosen → T (coversb reach k x) → ⊥
    higher : (y : ℕ) → Memᴰ y xs → x < y → T (coversb reach (child_for parent a.path y) x) → ⊥

  -- no child chosen before covers a path that lacks one
  lacks_free : (chosen : List Part) (x : ℕ) → lacksb reach a chosen x ≡ true → (k : Part) → Memᴰ k chosen → T (coversb reach k x) → ⊥
  unfolding lacksb
  lacks_free chosen x e k m t = pick (eqb a.path x) (coversb reach a x) (someb (λ j. coversb reach j x) chosen) refl refl refl
    where
      pick : (s r u : Bool) → eqb a.path x ≡ s → coversb reach a x ≡ r → someb (λ j. coversb reach j x) chosen ≡ u → ⊥
      pick true r u f g h = false≢true (rw (lacksb, f) at e)
      pick false false u f g h = false≢true (rw (lacksb, f, g) at e)
      pick false true true f g h = false≢true (rw (lacksb, f, g, h) at e)
      pick false true false f g h = subst T h (some_someb (λ j. coversb reach j x) k m t)

  picks_so : (left : ℕ) (chosen : List Part) (x : ℕ) → Memᴰ x (picks left chosen) → Picked left chosen (picks left chosen) x
  unfolding picks
  picks_so zero chosen x m = elim m [ ]
  picks_so (suc n) chosen x m =
      pick (lacksb reach a chosen n) refl (picks_so n (chosen ++ (child_for parent a.path n ∷ []))) (picks_so n chosen)
    where
      more : List Part
      more = chosen ++ (child_for parent a.path n ∷ [])

      head : lacksb reach a chosen n ≡ true → ((y : ℕ) → Memᴰ y (picks n more) → Picked n more (picks n more) y)
          → Picked (suc n) chosen (n ∷ picks n more) n
      head e again =
          let l = lacks_so parent reach a chosen n e in
          record {
            low = omega arith;
            other = l.0;
            reached = l.1;
            before = lacks_free chosen n e;
            higher = λ y k g t. above y (Memᴰ.cases_cons k) g;
          }
        where
          above : (y : ℕ) → (y ≡ n) ⊎ Memᴰ y (picks n more) → n < y → ⊥
          above y (inl p) g = omega arith
          above y (inr k) g = omega (arith, (again y k).low)

      tail : ((y : ℕ) → Memᴰ y (picks n more) → Picked n more (picks n more) y) → Memᴰ x (picks n more)
          → Picked (suc n) chosen (n ∷ picks n more) x
      tail again k =
          let p = again x k in
          record {
            low = omega (arith, p.low);
            other = p.other;
            reached = p.reached;
            before = λ j i t. p.before j (Memᴰ.append_left _ i) t;
            higher = λ y i g t. above y (Memᴰ.cases_cons i) g t;
          }
        where
          above : (y : ℕ) → (y ≡ n) ⊎ Memᴰ y (picks n more) → x < y → T (coversb reach (child_for parent a.path y) x) → ⊥
          above y (inl e) g t =
              (again x k).before (child_for parent a.path n) (Memᴰ.append_right chosen (Memᴰ.head refl))
              (subst (λ (z : ℕ). T (coversb reach (child_for parent a.path z) x)) e t)
          above y (inr i) g t = (again x k).higher y i g t

      pick : (b : Bool) → lacksb reach a chosen n ≡ b
          → ((y : ℕ) → Memᴰ y (picks n more) → Picked n more (picks n more) y)
          → ((y : ℕ) → Memᴰ y (picks n chosen) → Picked n chosen (picks n chosen) y)
          → Picked (suc n) chosen (picks (suc n) chosen) x
      pick true e again less =
          rw (e, picks) (split (Memᴰ.cases_cons (rw (picks, e) at m)))
        where
          split : (x ≡ n) ⊎ Memᴰ x (picks n more) → Picked (suc n) chosen (n ∷ picks n more) x
          split (inl p) = subst (λ (z : ℕ). Picked (suc n) chosen (n ∷ picks n more) z) (sym p) (head e again)
          split (inr k) = tail again k
      pick false e again less =
          let p = less x (rw (picks, e) at m) in
          rw (e, picks) (record {
            low = omega (arith, p.low);
            other = p.other;
            reached = p.reached;
            before = p.before;
            higher = p.higher;
          })

  so_picks : (left : ℕ) (chosen : List Part) (x : ℕ) → Picked left chosen (picks left chosen) x → Memᴰ x (picks left chosen)
  unfolding picks
  so_picks zero chosen x p = absurd (omega (arith, p.low))
  so_picks (suc n) chosen x p =
      pick (lacksb reach a chosen n) refl (so_picks n (chosen ++ (child_for parent a.path n ∷ [])) x) (so_picks n chosen x) (ℕ_discrete x n)
    where
      more : List Part
      more = chosen ++ (child_for parent a.path n ∷ [])

      pick : (b : Bool) → lacksb reach a chosen n ≡ b → (Picked n more (picks n more) x → Memᴰ x (picks n more))
          → (Picked n chosen (picks n chosen) x → Memᴰ x (picks n chosen)) → Dec (x ≡ n) → Memᴰ x (picks (suc n) chosen)
      pick true e again less (yes q) = rw (e, picks) (Memᴰ.head q)
      pick true e again less (no q) = rw (e, picks) (Memᴰ.tail (again (narrow (rw (picks, e) at p))))
        where
          narrow : Picked (suc n) chosen (n ∷ picks n more) x → Picked n more (picks n more) x
          narrow p = record {
            low = omega (arith, p.low);
            other = p.other;
            reached = p.reached;
            before = λ k i t. old k (Memᴰ.append_cases chosen i) t;
            higher = λ y i g t. p.higher y (Memᴰ.tail i) g t;
          }
            where
              old : (k : Part) → Memᴰ k chosen ⊎ Memᴰ k (child_for parent a.path n ∷ []) → T (coversb reach k x) → ⊥
              old k (inl i) t = p.before k i t
              old k (inr i) t =
                  p.higher n (Memᴰ.head refl) (omega (arith, p.low))
                  (subst (λ (z : Part). T (coversb reach z x)) (Memᴰ.eq_of_singleton i) t)
      pick false e again less (yes q) =
          absurd (let s = someb_some (λ k. coversb reach k x) chosen
          (lacks_not parent reach a chosen x (subst (λ (z : ℕ). lacksb reach a chosen z ≡ false) (sym q) e) p.other p.reached) in
          p.before s.member s.listed s.passes)
      pick false e again less (no q) =
          rw (e, picks) (less (narrow (rw (picks, e) at p)))
        where
          narrow : Picked (suc n) chosen (picks n chosen) x → Picked n chosen (picks n chosen) x
          narrow p = record {
            low = omega (arith, p.low);
            other = p.other;
            reached = p.reached;
            before = p.before;
            higher = p.higher;
          }

  -- what is filled in is the children of the paths picked
  fill_into : (left : ℕ) (chosen : List Part) (j : Part) → Memᴰ j (fill parent reach a left chosen)
      → Memᴰ j chosen ⊎ ((x : ℕ) × Memᴰ x (picks left chosen) × (j ≡ child_for parent a.path x))
  unfolding picks fill
  fill_into zero chosen j m = inl m
  fill_into (suc n) chosen j m =
      pick (lacksb reach a chosen n) refl (fill_into n (chosen ++ (child_for parent a.path n ∷ [])) j) (fill_into n chosen j)
    where
      more : List Part
      more = chosen ++ (child_for parent a.path n ∷ [])

      Result : List ℕ → Type 0
      Result xs = Memᴰ j chosen ⊎ ((x : ℕ) × Memᴰ x xs × (j ≡ child_for parent a.path x))

      last : Memᴰ j chosen ⊎ Memᴰ j (child_for parent a.path n ∷ []) → Result (n ∷ picks n more)
      last (inl i) = inl i
      last (inr i) = inr (n, Memᴰ.head refl, Memᴰ.eq_of_singleton i)

      new : Memᴰ j more ⊎ ((x : ℕ) × Memᴰ x (picks n more) × (j ≡ child_for parent a.path x)) → Result (n ∷ picks n more)
      new (inl i) = last (Memᴰ.append_cases chosen i)
      new (inr h) = inr (h.0, Memᴰ.tail h.1, h.2)

      pick : (b : Bool) → lacksb reach a chosen n ≡ b
          → (Memᴰ j (fill parent reach a n more)
          → Memᴰ j more ⊎ ((x : ℕ) × Memᴰ x (picks n more) × (j ≡ child_for parent a.path x)))
          → (Memᴰ j (fill parent reach a n chosen) → Result (picks n chosen)) → Result (picks (suc n) chosen)
      pick true e again less = rw (e, picks) (new (again (rw (fill, e) at m)))
      pick false e again less = rw (e, picks) (less (rw (fill, e) at m))

  into_fill : (left : ℕ) (chosen : List Part) (x : ℕ) → Memᴰ x (picks left chosen)
      → Memᴰ (child_for parent a.path x) (fill parent reach a left chosen)
  unfolding picks fill
  into_fill zero chosen x m = elim m [ ]
  into_fill (suc n) chosen x m =
      pick (lacksb reach a chosen n) refl (into_fill n (chosen ++ (child_for parent a.path n ∷ [])) x) (into_fill n chosen x)
    where
      more : List Part
      more = chosen ++ (child_for parent a.path n ∷ [])

      pick : (b : Bool) → lacksb reach a chosen n ≡ b
          → (Memᴰ x (picks n more) → Memᴰ (child_for parent a.path x) (fill parent reach a n more))
          → (Memᴰ x (picks n chosen) → Memᴰ (child_for parent a.path x) (fill parent reach a n chosen))
          → Memᴰ (child_for parent a.path x) (fill parent reach a (suc n) chosen)
      pick true e again less = rw (e, fill) (split (Memᴰ.cases_cons (rw (picks, e) at m)))
        where
          split : (x ≡ n) ⊎ Memᴰ x (picks n more) → Memᴰ (child_for parent a.path x) (fill parent reach a n more)
          split (inl p) =
              fill_keeps parent reach a n more (child_for parent a.path x)
              (Memᴰ.append_right chosen (Memᴰ.head (ap (child_for parent a.path) p)))
          split (inr k) = again k
      pick false e again less = rw (e, fill) (less (rw (picks, e) at m))

-- ---- the child path towards a path, and the goals' own children

module _ {parent : ℕ → ℕ} (desc : Descending parent) where
  towards_is : {c x : ℕ} → StrictlyBelow parent c x → Towards parent c x (towards parent c x)
  towards_is s = record {
    inner = omega (arith, strictly_lt desc (towards_strictly desc s));
    under = towards_parent desc s;
    onward = towards_below desc s;
  }

  towards_under : {c x k : ℕ} → Towards parent c x k → StrictlyBelow parent c k
  towards_under {c} {x} {k} w = record {
    below = Below.up (Below.same (sym w.under));
    other = λ e. omega (arith, desc.smaller k w.inner, w.under);
  }

  towards_only : {c x k : ℕ} → Towards parent c x k → StrictlyBelow parent c x → k ≡ towards parent c x
  towards_only {c} {x} {k} w s =
      let t = towards_is s in
      let h = towards_highest desc (towards_under w) w.onward in
      pick h
    where
      pick : Below parent (towards parent c x) k → k ≡ towards parent c x
      pick (Below.same e) = sym e
      pick (Below.up h) =
          absurd (omega (arith, below_le desc (subst (λ (z : ℕ). Below parent (towards parent c x) z) w.under h), strictly_lt desc (towards_strictly desc s)))

  towards_strict : {c x k : ℕ} → Towards parent c x k → StrictlyBelow parent c x
  towards_strict {c} {x} {k} w =
      record {
        below = below_trans (towards_under w).below w.onward;
        other = λ e. omega (arith, strictly_lt desc (towards_under w), below_le desc w.onward);
      }

  child_is : {c x : ℕ} → StrictlyBelow parent c x → ChildFor parent c x (child_for parent c x)
  child_is s = record { path = towards_is s; goal = refl }

  child_only : {c x : ℕ} {j : Part} → ChildFor parent c x j → j ≡ child_for parent c x
  child_only {c} {x} {j} w =
      let e = towards_only w.path (towards_strict w.path) in
      λ i. record { path = e i; goals = w.goal i }

  context_is : {goals : List ℕ} {some : ℕ} → Memᴰ some goals → GoalsContext parent goals (meet_all parent goals)
  context_is {goals} m = record { prefix = λ g i. meet_above desc i; longest = λ d h. meet_longest desc d goals m h }

  context_same : {goals : List ℕ} {c d : ℕ} → GoalsContext parent goals c → GoalsContext parent goals d → c ≡ d
  context_same {c = c} {d = d} x y = below_antisym desc (y.longest c x.prefix) (x.longest d y.prefix)

each_own : (parent : ℕ → ℕ) (c : ℕ) (goals : List ℕ) {g : ℕ} → Memᴰ g goals → (c ≡ g → ⊥) → Memᴰ (child_for parent c g) (own_each parent c goals)
unfolding own_each
each_own parent c [] m n = elim m [ ]
each_own parent c (h ∷ more) {g} m n = pick (eqb h c) refl (each_own parent c more {g = g}) (Memᴰ.cases_cons m)
  where
    pick : (b : Bool) → eqb h c ≡ b → (Memᴰ g more → (c ≡ g → ⊥) → Memᴰ (child_for parent c g) (own_each parent c more))
        → (g ≡ h) ⊎ Memᴰ g more → Memᴰ (child_for parent c g) (own_each parent c (h ∷ more))
    pick true e again (inl p) = absurd (n (sym (p ∙ eqb-true h c e)))
    pick true e again (inr k) = rw (e, own_each) (again k n)
    pick false e again (inl p) = rw (e, own_each) (Memᴰ.head (ap (child_for parent c) p))
    pick false e again (inr k) = rw (e, own_each) (Memᴰ.tail (again k n))

module _ {parent : ℕ → ℕ} {rules : List Rule} {count : ℕ} {reach : ℕ → ℕ → ℕ → Bool} (desc : Descending parent)
    (within : RulesIn count rules) (decides : Decides parent rules count reach) (a : Part) (v : Goals parent count a.path a.goals) where
  meets : GoalsContext parent a.goals (meet_all parent a.goals)
  meets = context_is desc v.listed

  own_into : (j : Part) → OwnChild parent a j → Memᴰ j (own_kids parent a.path a.goals)
  unfolding own_kids
  own_into j (each x g m n w) = pick (eqb a.path (meet_all parent a.goals)) refl
    where
      pick : (b : Bool) → eqb a.path (meet_all parent a.goals) ≡ b → Memᴰ j (own_kids parent a.path a.goals)
      pick true e =
          rw (e, own_kids) (subst (λ (z : Part). Memᴰ z (own_each parent a.path a.goals)) (sym (child_only desc w))
          (each_own parent a.path a.goals m n))
      pick false e = absurd (eqb-false a.path (meet_all parent a.goals) e (context_same desc x meets))
  own_into j (all top x n w p) = pick (eqb a.path (meet_all parent a.goals)) refl
    where
      is : top ≡ meet_all parent a.goals
      is = context_same desc x meets

      q : j.path ≡ towards parent a.path (meet_all parent a.goals)
      q = towards_only desc w (towards_strict desc w) ∙ ap (towards parent a.path) is

      pick : (b : Bool) → eqb a.path (meet_all parent a.goals) ≡ b → Memᴰ j (own_kids parent a.path a.goals)
      pick true e = absurd (n (eqb-true a.path (meet_all parent a.goals) e ∙ sym is))
      pick false e = rw (e, own_kids) (Memᴰ.head (λ i. record { path = q i; goals = p i }))

  into_own : (j : Part) → Memᴰ j (own_kids parent a.path a.goals) → OwnChild parent a j
  unfolding own_kids
  into_own j m = pick (eqb a.path (meet_all parent a.goals)) refl
    where
      pick : (b : Bool) → eqb a.path (meet_all parent a.goals) ≡ b → OwnChild parent a j
      pick true e =
          let o = own_each_lem a.path a.goals (rw (own_kids, e) at m) in
          each (subst (λ (z : ℕ). GoalsContext parent a.goals z) (sym (eqb-true a.path (meet_all parent a.goals) e)) meets)
          o.goal o.listed o.other
          (subst (λ (z : Part). ChildFor parent a.path o.goal z) (sym o.is)
          (child_is desc (record { below = v.below o.goal o.listed; other = o.other })))
      pick false e =
          let n = eqb-false a.path (meet_all parent a.goals) e in
          let s : StrictlyBelow parent a.path (meet_all parent a.goals) =
          record { below = meets.longest a.path v.below; other = n } in
          let p = Memᴰ.eq_of_singleton (rw (own_kids, e) at m) in
          all (meet_all parent a.goals) meets n
          (subst (λ (z : Part). Towards parent a.path (meet_all parent a.goals) z.path) (sym p) (towards_is desc s))
          (ap (λ (z : Part). z.goals) p)

  -- ---- the children computed are those of the words

  abbrev own : List Part
  own = own_kids parent a.path a.goals

  abbrev xs : List ℕ
  xs = picks parent reach a count own

  own_goals : (k : Part) → Memᴰ k own → Goals parent count k.path k.goals
  unfolding kids_of
  own_goals k m = kid_goals desc within decides v (kids_are desc within decides a k v (fill_keeps parent reach a count own k m))

  picked_reached : {x : ℕ} → Picked parent reach a count own xs x → Covers parent rules a x
  picked_reached {x} p = (covers_any desc within decides a x v p.low).0 p.reached

  picked_goals : {y : ℕ} → Memᴰ y xs → Goals parent count (towards parent a.path y) (y ∷ [])
  picked_goals {y} m =
      let p = picks_so parent reach a count own y m in
      kid_goals desc within decides v (alone y p.other (picked_reached p))

  picked_strictly : {y : ℕ} → Memᴰ y xs → StrictlyBelow parent a.path y
  picked_strictly {y} m =
      let p = picks_so parent reach a count own y m in
      any_strictly desc within decides p.other (picked_reached p)

  pub kids_children : ChildrenOf parent rules a (kids_of parent count reach a)
  unfolding kids_of
  kids_children = record {
    chosen = xs;
    gets = λ x. (into x, out x);
    are = λ j. (λ m. from j (fill_into parent reach a count own j m), to j);
  }
    where
      into : (x : ℕ) → Memᴰ x xs → GetsChild parent rules a xs x
      into x m =
          let p = picks_so parent reach a count own x m in
          record {
            other = p.other;
            reached = picked_reached p;
            own = λ j o c.
                let i = own_into j o in
                p.before j i ((covers_any desc within decides j x (own_goals j i) p.low).1 c);
            higher = λ y i g j w c.
                p.higher y i g
                ((covers_any desc within decides (child_for parent a.path y) x (picked_goals i) p.low).1
                (subst (λ (z : Part). Covers parent rules z x) (child_only desc w) c));
          }

      out : (x : ℕ) → GetsChild parent rules a xs x → Memᴰ x xs
      out x g =
          let l = any_small desc within v g.reached in
          so_picks parent reach a count own x (record {
            low = l;
            other = g.other;
            reached = (covers_any desc within decides a x v l).1 g.reached;
            before = λ k i t. g.own k (into_own k i) ((covers_any desc within decides k x (own_goals k i) l).0 t);
            higher = λ y i h t.
                g.higher y i h (child_for parent a.path y) (child_is desc (picked_strictly i))
                ((covers_any desc within decides (child_for parent a.path y) x (picked_goals i) l).0 t);
          })

      from : (j : Part) → Memᴰ j own ⊎ ((x : ℕ) × Memᴰ x xs × (j ≡ child_for parent a.path x))
          → OwnChild parent a j ⊎ ((x : ℕ) × Memᴰ x xs × ChildFor parent a.path x j)
      from j (inl m) = inl (into_own j m)
      from j (inr h) =
          inr (h.0, h.1, subst (λ (z : Part). ChildFor parent a.path h.0 z) (sym h.2) (child_is desc (picked_strictly h.1)))

      to : (j : Part) → OwnChild parent a j ⊎ ((x : ℕ) × Memᴰ x xs × ChildFor parent a.path x j)
          → Memᴰ j (fill parent reach a count own)
      to j (inl o) = fill_keeps parent reach a count own j (own_into j o)
      to j (inr h) =
          subst (λ (z : Part). Memᴰ z (fill parent reach a count own)) (sym (child_only desc h.2))
          (into_fill parent reach a count own h.0 h.1)

  -- ---- no other children are

  chosen_into : (n x : ℕ) → count ≤ x + n → {ks ls : List Part} (p : ChildrenOf parent rules a ks) (q : ChildrenOf parent rules a ls)
      → Memᴰ x p.chosen → Memᴰ x q.chosen
  chosen_into zero x l p q m = absurd (omega (arith, any_small desc within v ((p.gets x).0 m).reached))
  chosen_into (suc n) x l p q m =
      let g = (p.gets x).0 m in
      (q.gets x).1 (record {
        other = g.other;
        reached = g.reached;
        own = g.own;
        higher = λ y i h j w c. g.higher y (chosen_into n y (omega arith) q p i) h j w c;
      })

  pub children_into : {ks ls : List Part} → ChildrenOf parent rules a ks → ChildrenOf parent rules a ls
      → (j : Part) → Memᴰ j ks → Memᴰ j ls
  children_into p q j m = (q.are j).1 (pick ((p.are j).0 m))
    where
      pick : OwnChild parent a j ⊎ ((x : ℕ) × Memᴰ x p.chosen × ChildFor parent a.path x j)
          → OwnChild parent a j ⊎ ((x : ℕ) × Memᴰ x q.chosen × ChildFor parent a.path x j)
      pick (inl o) = inl o
      pick (inr h) = inr (h.0, chosen_into count h.0 (omega arith) p q h.1, h.2)

-- ---- so a document in the words is one by the children computed, and the other way round

matches_into : {A B : Type 0} {F G : A → B → Type 0} {l : List A} {m : List B} → Matches F l m
    → ((a : A) (b : B) → Memᴰ a l → F a b → G a b) → Matches G l m
matches_into Matches.none h = Matches.none
matches_into (Matches.next {a = a} {b = b} f m) h =
    Matches.next (h a b (Memᴰ.head refl) f) (matches_into m (λ x y k. h x y (Memᴰ.tail k)))

-- an entry lays down a part whatever order its children are listed in
lays_into : {kids others : Part → List Part} {parts : List Part} {a : Part} {e : Entry} → ((j : Part) → Memᴰ j (kids a) → Memᴰ j (others a))
    → ((j : Part) → Memᴰ j (others a) → Memᴰ j (kids a)) → LaysDown kids parts a e → LaysDown others parts a e
lays_into f g p = record {
  path = p.path;
  ascending = p.ascending;
  only = λ n k. let r = p.only n k in record { kid = r.kid; is_kid = f r.kid r.is_kid; standing = r.standing };
  all = λ j m. p.all j (g j m);
}

module _ {parent : ℕ → ℕ} {rules : List Rule} {count : ℕ} {reach : ℕ → ℕ → ℕ → Bool} {goals : List ℕ} (desc : Descending parent)
    (within : RulesIn count rules) (decides : Decides parent rules count reach) (v : Goals parent count 0 goals) where
  -- by the children computed it is written in the words
  pub computed_words : {es : List Entry} → WritesParts parent (kids_of parent count reach) (part_zero goals) es
      → WritesDocument parent rules (part_zero goals) es
  computed_words w = record {
    kids = kids_of parent count reach;
    children = λ a n. kids_children desc within decides a (named_goals desc within decides v n);
    written = w;
  }

  module _ (kids : Part → List Part) (children : (a : Part) → Named kids (part_zero goals ∷ []) a → ChildrenOf parent rules a (kids a)) where
    named_computed : {a : Part} → Named kids (part_zero goals ∷ []) a → Named (kids_of parent count reach) (part_zero goals ∷ []) a
    named_computed (given m) = given m
    named_computed (further {p = a} k n m) =
        let c = named_computed n in
        let g = named_goals desc within decides v c in
        further k c (children_into desc within decides k g (children k n) (kids_children desc within decides k g) a m)

    computed_named : {a : Part} → Named (kids_of parent count reach) (part_zero goals ∷ []) a → Named kids (part_zero goals ∷ []) a
    computed_named (given m) = given m
    computed_named (further {p = a} k n m) =
        let c = computed_named n in
        let g = named_goals desc within decides v n in
        further k c (children_into desc within decides k g (kids_children desc within decides k g) (children k c) a m)

  -- what is written in the words is written by the children computed
  pub words_computed : {es : List Entry} → WritesDocument parent rules (part_zero goals) es
      → WritesParts parent (kids_of parent count reach) (part_zero goals) es
  words_computed d =
      let w = d.written in
      record {
        parts = w.parts;
        begins = w.begins;
        named = λ a m. named_computed d.kids d.children (w.named a m);
        every = λ a n. w.every a (computed_named d.kids d.children n);
        ordered = w.ordered;
        entries = matches_into w.entries (λ a e m p.
            let n = w.named a m in
            let g = named_goals desc within decides v (named_computed d.kids d.children n) in
            let k = kids_children desc within decides a g in
            lays_into (children_into desc within decides a g (d.children a n) k)
            (children_into desc within decides a g k (d.children a n)) p);
      }
