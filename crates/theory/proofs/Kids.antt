-- The children of a part: what each of them is, and that together they cover what the part reaches.
use Prim.Native.Nat.{ℕ, zero, suc, ◌<◌}
use mathlib.Core.Path.{◌≡◌, refl, sym, subst}
use mathlib.Core.Logic.{◌⊎◌, inl, inr, ◌↔◌}
use mathlib.Core.Bool.{Bool, true, false}
use mathlib.Core.List.Memᴰ
use mathlib.Core.List.{
  List,
  [],
  ◌∷◌,
  Memᴰ,
}
use native.Mathlib.Omega.{arith}
use lib.Dec.{T, eqb}
use Rattle.files.specs.Table.{Rule}
use Rattle.documents.specs.Paths.{Below, same, up, StrictlyBelow, Descending, towards}
use Rattle.documents.specs.Parts.{MayStand}
use Rattle.documents.proofs.Paths.{eqb-true, eqb-false, below_refl, below_trans, below_le, strictly_lt, context_of_context, towards_parent, towards_strictly, towards_below}
use Rattle.theory.specs.Walk.{climb, Reach}
use Rattle.theory.specs.Parts.{
  Part,
  path_of,
  ReachAny,
  RulesIn,
  Decides,
  meet_all,
  child_for,
  child_for_all,
  own_each,
  own_kids,
  coversb,
  kids_of,
}
use Rattle.theory.proofs.Fill.{Chosen, someb_some, some_someb, fill_keeps, fill_cases, fill_covers}
use Rattle.theory.proofs.Walks.{walk_small, reach_refl, reach_trans, reach_step, reach_prefix, reach_end}

-- goals that a part on c may have: at least one, each below c and in the table
pub record Goals (parent : ℕ → ℕ) (count c : ℕ) (goals : List ℕ) : Type 0 where
  pub some : ℕ
  pub listed : Memᴰ some goals
  pub below : (g : ℕ) → Memᴰ g goals → Below parent c g
  pub small : (g : ℕ) → Memᴰ g goals → g < count

-- what a child of [c; goals] is: one with all goals, on the way to their context, or one with a reachable path as its goal
pub data KidOf (parent : ℕ → ℕ) (rules : List Rule) (c : ℕ) (goals : List ℕ) : Part → Type 0 where
  handed : (c ≡ meet_all parent goals → ⊥)
      → KidOf parent rules c goals (child_for_all parent c goals)
  alone : (x : ℕ) → (c ≡ x → ⊥) → ReachAny parent rules c goals x → KidOf parent rules c goals (child_for parent c x)

module _ {parent : ℕ → ℕ} (desc : Descending parent) where
  -- every goal is below the context of all
  pub meet_above : {g : ℕ} {goals : List ℕ} → Memᴰ g goals → Below parent (meet_all parent goals) g
  unfolding meet_all
  meet_above {g = g} (Memᴰ.head {x = x} {xs = xs} e) = subst (λ (z : ℕ). Below parent (meet_all parent (x ∷ xs)) z) (sym e) (first xs)
    where
      first : (xs : List ℕ) → Below parent (meet_all parent (x ∷ xs)) x
      first [] = below_refl x
      first (h ∷ more) = (context_of_context desc x (meet_all parent (h ∷ more))).left
  meet_above {g = g} (Memᴰ.tail {x = x} {xs = xs} m) = below_trans (rest xs m) (meet_above m)
    where
      rest : (xs : List ℕ) → Memᴰ g xs → Below parent (meet_all parent (x ∷ xs)) (meet_all parent xs)
      rest [] m = elim m [ ]
      rest (h ∷ more) m = (context_of_context desc x (meet_all parent (h ∷ more))).right

  -- what is above every goal is above their context
  pub meet_longest : (d : ℕ) (goals : List ℕ) {some : ℕ} → Memᴰ some goals
      → ((g : ℕ) → Memᴰ g goals → Below parent d g) → Below parent d (meet_all parent goals)
  unfolding meet_all
  meet_longest d [] m h = elim m [ ]
  meet_longest d (x ∷ []) m h = h x (Memᴰ.head refl)
  meet_longest d (x ∷ y ∷ more) m h =
      (context_of_context desc x (meet_all parent (y ∷ more))).longest d (h x (Memᴰ.head refl))
      (meet_longest d (y ∷ more) (Memᴰ.head refl) (λ g k. h g (Memᴰ.tail k)))

  module _ {rules : List Rule} where
    -- a path above x is reachable from x inside it
    pub reach_climb : {c x : ℕ} → Below parent c x → Reach parent rules c x c
    reach_climb {c} (same e) = subst (λ (z : ℕ). Reach parent rules c z c) e (reach_refl (below_refl c))
    reach_climb {c} (up {x = x} h) = pick x h (reach_climb h)
      where
        pick : (x : ℕ) → Below parent c (parent x) → Reach parent rules c (parent x) c → Reach parent rules c x c
        pick zero h again = subst (λ (z : ℕ). Reach parent rules c z c) desc.root again
        pick (suc x) h again = reach_trans (reach_step (up h) (climb (omega arith) refl refl) h) again

    module _ {count : ℕ} (within : RulesIn count rules) where
      -- what is reachable from the goals is in the table
      pub any_small : {c y : ℕ} {goals : List ℕ} → Goals parent count c goals → ReachAny parent rules c goals y → y < count
      any_small v a = walk_small desc within (v.small a.goal a.listed) a.reach.walk

-- a goal's own child
pub record Own (parent : ℕ → ℕ) (c : ℕ) (goals : List ℕ) (k : Part) : Type 0 where
  pub goal : ℕ
  pub listed : Memᴰ goal goals
  pub other : c ≡ goal → ⊥
  pub is : k ≡ child_for parent c goal

pub own_each_lem : {parent : ℕ → ℕ} {k : Part} (c : ℕ) (goals : List ℕ) → Memᴰ k (own_each parent c goals) → Own parent c goals k
unfolding own_each
own_each_lem c [] m = elim m [ ]
own_each_lem {parent} {k} c (g ∷ more) m = pick (eqb g c) refl (own_each_lem c more)
  where
    later : Own parent c more k → Own parent c (g ∷ more) k
    later o = record { goal = o.goal; listed = Memᴰ.tail o.listed; other = o.other; is = o.is }

    split : eqb g c ≡ false → (k ≡ child_for parent c g) ⊎ Memᴰ k (own_each parent c more)
        → (Memᴰ k (own_each parent c more) → Own parent c more k) → Own parent c (g ∷ more) k
    split e (inl p) again =
        record { goal = g; listed = Memᴰ.head refl; other = λ q. eqb-false g c e (sym q); is = p }
    split e (inr n) again = later (again n)

    pick : (b : Bool) → eqb g c ≡ b → (Memᴰ k (own_each parent c more) → Own parent c more k) → Own parent c (g ∷ more) k
    pick true e again = later (again (rw (own_each, e) at m))
    pick false e again = split e (Memᴰ.cases_cons (rw (own_each, e) at m)) again

-- a child that reaches y
pub record Covering (parent : ℕ → ℕ) (rules : List Rule) (ks : List Part) (y : ℕ) : Type 0 where
  pub part : Part
  pub listed : Memᴰ part ks
  pub reaches : ReachAny parent rules part.path part.goals y

module _ {parent : ℕ → ℕ} {rules : List Rule} {count : ℕ} {reach : ℕ → ℕ → ℕ → Bool} (desc : Descending parent)
    (within : RulesIn count rules) (decides : Decides parent rules count reach) where
  -- covering is decided
  pub covers_any : (a : Part) (x : ℕ) → Goals parent count a.path a.goals → x < count
      → T (coversb reach a x) ↔ ReachAny parent rules a.path a.goals x
  unfolding coversb
  covers_any a x v l = (
    λ t.
        let s = someb_some (λ g. reach a.path g x) a.goals t in
        record {
          goal = s.member;
          listed = s.listed;
          reach = (exact s.member s.listed).0 s.passes;
        },
    λ r.
        some_someb (λ g. reach a.path g x) r.goal r.listed ((exact r.goal r.listed).1 r.reach),
  )
    where
      exact : (g : ℕ) → Memᴰ g a.goals → T (reach a.path g x) ↔ Reach parent rules a.path g x
      exact g m = decides.exactly a.path g x (v.below g m) (v.small g m) l

  -- a reachable path other than c is strictly below c
  pub any_strictly : {c x : ℕ} {goals : List ℕ} → (c ≡ x → ⊥) → ReachAny parent rules c goals x → StrictlyBelow parent c x
  any_strictly n r = record { below = reach_end r.reach; other = n }

  placed : {c x : ℕ} {goals : List ℕ} → StrictlyBelow parent c x → x < count
      → MayStand parent count path_of c (record { path = towards parent c x; goals = goals })
  placed s l = record {
    inner = omega (arith, strictly_lt desc (towards_strictly desc s));
    small = omega (arith, below_le desc (towards_below desc s));
    parent_is = towards_parent desc s;
  }

  module _ {c : ℕ} {goals : List ℕ} (v : Goals parent count c goals) where
    meet_strictly : (c ≡ meet_all parent goals → ⊥) → StrictlyBelow parent c (meet_all parent goals)
    meet_strictly n = record { below = meet_longest desc c goals v.listed v.below; other = n }

    meet_small : meet_all parent goals < count
    meet_small = omega (arith, below_le desc (meet_above desc v.listed), v.small v.some v.listed)

    -- a child's goals are goals that it may have
    pub kid_goals : {k : Part} → KidOf parent rules c goals k → Goals parent count k.path k.goals
    kid_goals (handed n) = record {
      some = v.some;
      listed = v.listed;
      below = λ g m. below_trans (towards_below desc (meet_strictly n)) (meet_above desc m);
      small = v.small;
    }
    kid_goals (alone x n r) = record {
      some = x;
      listed = Memᴰ.head refl;
      below = λ g m.
          subst (λ (z : ℕ). Below parent (towards parent c x) z) (sym (Memᴰ.eq_of_singleton m))
          (towards_below desc (any_strictly n r));
      small = λ g m. omega (arith, Memᴰ.eq_of_singleton m, any_small desc within v r);
    }

    -- a child may stand under a part on c
    pub kid_stands : {k : Part} → KidOf parent rules c goals k → MayStand parent count path_of c k
    kid_stands (handed n) = placed (meet_strictly n) meet_small
    kid_stands (alone x n r) = placed (any_strictly n r) (any_small desc within v r)

    -- what a child reaches the part reaches
    pub kid_reaches : {k : Part} {y : ℕ} → KidOf parent rules c goals k → ReachAny parent rules k.path k.goals y
        → ReachAny parent rules c goals y
    kid_reaches (handed n) a = record {
      goal = a.goal;
      listed = a.listed;
      reach = reach_prefix (towards_strictly desc (meet_strictly n)).below a.reach;
    }
    kid_reaches {y = y} (alone x n r) a = record {
      goal = r.goal;
      listed = r.listed;
      reach = reach_trans r.reach
          (subst (λ (z : ℕ). Reach parent rules c z y) (Memᴰ.eq_of_singleton a.listed)
          (reach_prefix (towards_strictly desc (any_strictly n r)).below a.reach));
    }

  -- a child of a part is one with all goals or one with a reachable path as its goal
  pub kids_are : (a k : Part) → Goals parent count a.path a.goals → Memᴰ k (kids_of parent count reach a)
      → KidOf parent rules a.path a.goals k
  unfolding kids_of own_kids
  kids_are a k v m = pick (fill_cases parent reach a count (own_kids parent a.path a.goals) k m)
    where
      c : ℕ
      c = a.path

      alone_is : (x : ℕ) → (c ≡ x → ⊥) → ReachAny parent rules c a.goals x → k ≡ child_for parent c x → KidOf parent rules c a.goals k
      alone_is x n r e = subst (λ (z : Part). KidOf parent rules c a.goals z) (sym e) (alone x n r)

      owned : (b : Bool) → eqb c (meet_all parent a.goals) ≡ b → Memᴰ k (own_kids parent c a.goals)
          → KidOf parent rules c a.goals k
      owned true e l =
          let o = own_each_lem c a.goals (rw (own_kids, e) at l) in
          alone_is o.goal o.other
          (record { goal = o.goal; listed = o.listed; reach = reach_refl (v.below o.goal o.listed) }) o.is
      owned false e l =
          subst (λ (z : Part). KidOf parent rules c a.goals z) (sym (Memᴰ.eq_of_singleton (rw (own_kids, e) at l)))
          (handed (eqb-false c (meet_all parent a.goals) e))

      pick : Memᴰ k (own_kids parent c a.goals) ⊎ Chosen parent reach a count k → KidOf parent rules c a.goals k
      pick (inl l) = owned (eqb c (meet_all parent a.goals)) refl l
      pick (inr o) = alone_is o.goal o.other ((covers_any a o.goal v o.small).0 o.reached) o.is

  -- what a part reaches, other than its own path, a child of it reaches
  pub kids_cover : (a : Part) {y : ℕ} → Goals parent count a.path a.goals → (a.path ≡ y → ⊥)
      → ReachAny parent rules a.path a.goals y → Covering parent rules (kids_of parent count reach a) y
  unfolding kids_of
  kids_cover a {y} v n r =
      let l : y < count = any_small desc within v r in
      let g = kid_goals v (alone y n r) in
      let own : ReachAny parent rules (towards parent a.path y) (y ∷ []) y =
      record { goal = y; listed = Memᴰ.head refl; reach = reach_refl (g.below y (Memᴰ.head refl)) } in
      let t = fill_covers parent reach a count (own_kids parent a.path a.goals) y l n ((covers_any a y v l).1 r)
      ((covers_any (child_for parent a.path y) y g l).1 own) in
      let s = someb_some (λ k. coversb reach k y) (kids_of parent count reach a) t in
      record {
        part = s.member;
        listed = s.listed;
        reaches = (covers_any s.member y (kid_goals v (kids_are a s.member v s.listed)) l).0 s.passes;
      }

  -- the child on the way to the goals' context
  pub handed_kid : (a : Part) → (a.path ≡ meet_all parent a.goals → ⊥)
      → Memᴰ (child_for_all parent a.path a.goals) (kids_of parent count reach a)
  unfolding kids_of own_kids
  handed_kid a n =
      fill_keeps parent reach a count (own_kids parent a.path a.goals) _ (pick (eqb a.path (meet_all parent a.goals)) refl)
    where
      pick : (b : Bool) → eqb a.path (meet_all parent a.goals) ≡ b
          → Memᴰ (child_for_all parent a.path a.goals) (own_kids parent a.path a.goals)
      pick true e = absurd (n (eqb-true a.path (meet_all parent a.goals) e))
      pick false e = rw (e, own_kids) (Memᴰ.head refl)
