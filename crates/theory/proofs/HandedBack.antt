-- The documents handed back: the tree of part 0 breaks the implication or the absence asked, or holds every required path, and
-- obeys every rule, unless a path is dead or a pair stands.
use Prim.Native.Nat.{ℕ, ◌<◌}
use mathlib.Core.Path.{◌≡◌, refl, sym, subst}
use mathlib.Core.Logic.{◌⊎◌, inl, inr}
use mathlib.Core.Bool.{Bool, true, false}
use mathlib.Core.List.Memᴰ
use mathlib.Core.List.{List, [], ◌∷◌, Memᴰ}
use native.Mathlib.Omega.{arith}
use lib.Dec.{eqb}
use Rattle.files.specs.Table.{Rule}
use Rattle.documents.specs.Paths.{Below, Context, Descending}
use Rattle.documents.specs.Tree.{Forest}
use Rattle.documents.specs.Parts.{Unfolds, PartHolds}
use Rattle.documents.proofs.Paths.{eqb-true, below_trans, below_root, context_unique}
use Rattle.documents.proofs.Parts.{parts_implication, parts_absence}
use Rattle.theory.specs.Walk.{Reach, Dead, PairBy, Pair, straight, crossed}
use Rattle.theory.specs.Required.{Needed, root, listed, Conflict, pair, dead}
use Rattle.theory.specs.Follows.{BreaksImplication, BreaksAbsence, Witnesses}
use Rattle.theory.specs.Parts.{
  path_of,
  RulesIn,
  Decides,
  meet_all,
  kids_of,
  implication_part,
  both_goals,
  absence_part,
  consistency_part,
}
use Rattle.theory.proofs.Walks.{reach_refl, reach_start}
use Rattle.theory.proofs.Kids.{Goals, meet_above, meet_longest}
use Rattle.theory.proofs.Completeness.{
  Clash,
  only_goal,
  part_holds_iff,
  named_goals,
  chain_named,
  tree_document,
  tree_obeys,
  tree_holds,
}

-- a path of two goals is one of them
pub both_cases : (p q g : ℕ) → Memᴰ g (both_goals p q) → (g ≡ p) ⊎ (g ≡ q)
unfolding both_goals
both_cases p q g m = pick (eqb p q) refl
  where
    second : (g ≡ p) ⊎ Memᴰ g (q ∷ []) → (g ≡ p) ⊎ (g ≡ q)
    second (inl e) = inl e
    second (inr k) = inr (Memᴰ.eq_of_singleton k)

    pick : (b : Bool) → eqb p q ≡ b → (g ≡ p) ⊎ (g ≡ q)
    pick true e = inl (Memᴰ.eq_of_singleton (rw (both_goals, e) at m))
    pick false e = second (Memᴰ.cases_cons (rw (both_goals, e) at m))

-- the first and the second are goals
pub both_left : (p q : ℕ) → Memᴰ p (both_goals p q)
unfolding both_goals
both_left p q = pick (eqb p q) refl
  where
    pick : (b : Bool) → eqb p q ≡ b → Memᴰ p (both_goals p q)
    pick true e = rw (e, both_goals) (Memᴰ.head refl)
    pick false e = rw (e, both_goals) (Memᴰ.head refl)

pub both_right : (p q : ℕ) → Memᴰ q (both_goals p q)
unfolding both_goals
both_right p q = pick (eqb p q) refl
  where
    pick : (b : Bool) → eqb p q ≡ b → Memᴰ q (both_goals p q)
    pick true e = rw (e, both_goals) (Memᴰ.head (sym (eqb-true p q e)))
    pick false e = rw (e, both_goals) (Memᴰ.tail (Memᴰ.head refl))

module _ {parent : ℕ → ℕ} (desc : Descending parent) where
  -- the context of two goals is that of the two paths
  both_context : (p q : ℕ) → Context parent p q (meet_all parent (both_goals p q))
  both_context p q = record {
    left = meet_above desc (both_left p q);
    right = meet_above desc (both_right p q);
    longest = λ d h k. meet_longest desc d (both_goals p q) (both_left p q) (λ g m. pick d h k g (both_cases p q g m));
  }
    where
      pick : (d : ℕ) → Below parent d p → Below parent d q → (g : ℕ) → (g ≡ p) ⊎ (g ≡ q) → Below parent d g
      pick d h k g (inl e) = subst (λ (z : ℕ). Below parent d z) (sym e) h
      pick d h k g (inr e) = subst (λ (z : ℕ). Below parent d z) (sym e) k

  -- goals of part 0 are any paths of the table
  root_goals_lem : {count : ℕ} {goals : List ℕ} {some : ℕ} → Memᴰ some goals → ((g : ℕ) → Memᴰ g goals → g < count)
      → Goals parent count 0 goals
  root_goals_lem {some = some} m h = record { some = some; listed = m; below = λ g k. below_root desc g; small = h }

  pub one_goals : {count p : ℕ} → p < count → Goals parent count 0 (p ∷ [])
  one_goals l = root_goals_lem (Memᴰ.head refl) (λ g m. omega (arith, Memᴰ.eq_of_singleton m))

  pub both_goals_lem : {count p q : ℕ} → p < count → q < count → Goals parent count 0 (both_goals p q)
  both_goals_lem {count} {p} {q} l k = root_goals_lem (both_left p q) (λ g m. pick g (both_cases p q g m))
    where
      pick : (g : ℕ) → (g ≡ p) ⊎ (g ≡ q) → g < count
      pick g (inl e) = omega arith
      pick g (inr e) = omega arith

  pub needed_goals : {count : ℕ} {required : List ℕ} → 0 < count → ((g : ℕ) → Memᴰ g required → g < count)
      → Goals parent count 0 (0 ∷ required)
  needed_goals {count} {required} z h = root_goals_lem (Memᴰ.head refl) (λ g m. pick g (Memᴰ.cases_cons m))
    where
      pick : (g : ℕ) → (g ≡ 0) ⊎ Memᴰ g required → g < count
      pick g (inl e) = omega arith
      pick g (inr m) = h g m

module _ {parent : ℕ → ℕ} {rules : List Rule} (desc : Descending parent) where
  -- a clash of a goal with itself shows that it is dead
  clash_dead : {goals : List ℕ} {g : ℕ} (k : Clash parent rules goals) → k.left.goal ≡ g → k.right.goal ≡ g → Dead parent rules g
  clash_dead {g = g} k e f =
      let l = subst (λ (z : ℕ). Reach parent rules k.context z k.ru.left) e k.left.reach in
      record {
        y = g;
        r = k.r;
        by = record {
          ru = k.ru;
          rule = k.rule;
          absence = k.absence;
          context = k.context;
          is_context = k.is_context;
          prefix = reach_start l;
          here = reach_refl (below_root desc g);
          left = l;
          right = subst (λ (z : ℕ). Reach parent rules k.context z k.ru.right) f k.right.reach;
        };
      }

  -- a clash of two goals is a pair below their context
  clash_pair : {goals : List ℕ} {c p q : ℕ} (k : Clash parent rules goals) → Below parent k.context c → k.left.goal ≡ p
      → k.right.goal ≡ q → PairBy parent rules c p q k.r
  clash_pair k b e f = record {
    ru = k.ru;
    rule = k.rule;
    absence = k.absence;
    context = k.context;
    is_context = k.is_context;
    prefix = b;
    left = subst (λ (z : ℕ). Reach parent rules k.context z k.ru.left) e k.left.reach;
    right = subst (λ (z : ℕ). Reach parent rules k.context z k.ru.right) f k.right.reach;
  }

  -- what a clash of the two goals of an absence says
  clash_both : {c p q : ℕ} → Context parent p q c → Clash parent rules (both_goals p q)
      → Dead parent rules p ⊎ (Dead parent rules q ⊎ Pair parent rules c p q)
  clash_both {c} {p} {q} x k = pick (both_cases p q _ k.left.listed) (both_cases p q _ k.right.listed)
    where
      b : Below parent k.context c
      b = subst (λ (z : ℕ). Below parent k.context z) (context_unique desc (both_context desc p q) x) k.prefix

      pick : (k.left.goal ≡ p) ⊎ (k.left.goal ≡ q) → (k.right.goal ≡ p) ⊎ (k.right.goal ≡ q)
          → Dead parent rules p ⊎ (Dead parent rules q ⊎ Pair parent rules c p q)
      pick (inl e) (inl f) = inl (clash_dead k e f)
      pick (inl e) (inr f) = inr (inr (straight k.r (clash_pair k b e f)))
      pick (inr e) (inl f) = inr (inr (crossed k.r (clash_pair k b e f)))
      pick (inr e) (inr f) = inr (inl (clash_dead k e f))

-- a goal of part 0 for consistency is the root or required
goal_needed : {required : List ℕ} {g : ℕ} → Memᴰ g (0 ∷ required) → Needed required g
goal_needed (Memᴰ.head e) = root e
goal_needed (Memᴰ.tail m) = listed m

module _ {parent : ℕ → ℕ} {rules : List Rule} {count : ℕ} {reach : ℕ → ℕ → ℕ → Bool} (desc : Descending parent)
    (within : RulesIn count rules) (decides : Decides parent rules count reach) where
  -- a part on c with goals of its own holds each of them
  chain_holds : {goals : List ℕ} {c g : ℕ} (v : Goals parent count 0 goals) → Below parent c (meet_all parent goals) → Memᴰ g goals
      → PartHolds path_of (kids_of parent count reach) (record { path = c; goals = goals }) g
  chain_holds {g = g} v b m =
      let w = named_goals desc within decides v (chain_named desc within decides v b) in
      (part_holds_iff desc within decides w).1 (record { goal = g; listed = m; reach = reach_refl (w.below g m) })

  -- the document for an implication's no
  pub implication_no : {p q c : ℕ} {d : Forest} → p < count → Context parent p q c → (Reach parent rules c p q → ⊥)
      → (Dead parent rules p → ⊥) → Unfolds path_of (kids_of parent count reach) (implication_part p ∷ []) d
      → BreaksImplication parent rules count p q d
  unfolding meet_all
  implication_no {p} {q} {c} l x far alive u =
      let v = one_goals desc l in
      let n = chain_named desc within decides v x.left in
      record {
        is_document = tree_document desc within decides v u;
        obeys = tree_obeys desc within decides v
            (λ g m k. alive (subst (λ (z : ℕ). Dead parent rules z) (Memᴰ.eq_of_singleton m) k))
            (λ k. alive (clash_dead desc k (Memᴰ.eq_of_singleton k.left.listed) (Memᴰ.eq_of_singleton k.right.listed))) u;
        breaks = λ i.
            far (only_goal ((part_holds_iff desc within decides (named_goals desc within decides v n)).0
            (((parts_implication u p q).1 i).every c x (record { path = c; goals = p ∷ [] }) n refl
            (chain_holds v x.left (Memᴰ.head refl)))));
      }

  -- the document for an absence's no
  pub absence_no : {p q c : ℕ} {d : Forest} → p < count → q < count → Context parent p q c
      → (Dead parent rules p ⊎ (Dead parent rules q ⊎ Pair parent rules c p q) → ⊥)
      → Unfolds path_of (kids_of parent count reach) (absence_part p q ∷ []) d → BreaksAbsence parent rules count p q d
  absence_no {p} {q} {c} lp lq x free u =
      let v = both_goals_lem desc lp lq in
      let m = both_context desc p q in
      let b : Below parent c (meet_all parent (both_goals p q)) = m.longest c x.left x.right in
      record {
        is_document = tree_document desc within decides v u;
        obeys = tree_obeys desc within decides v (λ g n k. free (gone g (both_cases p q g n) k)) (λ k. free (clash_both desc x k)) u;
        breaks = λ i.
            ((parts_absence u p q).1 i).never c x (record { path = c; goals = both_goals p q }) (chain_named desc within decides v b) refl
            (chain_holds v b (both_left p q)) (chain_holds v b (both_right p q));
      }
    where
      gone : (g : ℕ) → (g ≡ p) ⊎ (g ≡ q) → Dead parent rules g → Dead parent rules p ⊎ (Dead parent rules q ⊎ Pair parent rules c p q)
      gone g (inl e) k = inl (subst (λ (z : ℕ). Dead parent rules z) e k)
      gone g (inr e) k = inr (inl (subst (λ (z : ℕ). Dead parent rules z) e k))

  -- the document for consistency
  pub consistency_yes : {required : List ℕ} {d : Forest} → 0 < count → ((g : ℕ) → Memᴰ g required → g < count)
      → (Conflict parent rules required → ⊥) → Unfolds path_of (kids_of parent count reach) (consistency_part required ∷ []) d
      → Witnesses parent rules count required d
  consistency_yes {required} z h free u =
      let v = needed_goals desc z h in
      record {
        is_document = tree_document desc within decides v u;
        obeys = tree_obeys desc within decides v (λ g m k. free (dead (goal_needed m) k))
            (λ k. free (pair k.r (goal_needed k.left.listed) (goal_needed k.right.listed)
            (clash_pair desc k (below_trans k.prefix (meet_above desc (Memᴰ.head refl))) refl refl))) u;
        holds = record {
          each = λ g m.
              (tree_holds desc within decides v u).1
              (record { goal = g; listed = Memᴰ.tail m; reach = reach_refl (below_root desc g) });
        };
      }
