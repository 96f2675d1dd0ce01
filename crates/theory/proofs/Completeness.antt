-- Completeness: the tree of a part [0; goals] is a document, holds exactly what is reachable from the goals, and obeys every
-- rule unless a goal is dead or an absence rule excludes two of them.
use Prim.Native.Nat.{ℕ, zero, suc, ◌+◌, ◌-◌, ◌≤◌, ◌<◌}
use mathlib.Core.Path.{◌≡◌, refl, sym, subst}
use mathlib.Core.Logic.{inl, inr, ◌↔◌}
use mathlib.Core.Bool.{Bool}
use mathlib.Core.List.Memᴰ
use mathlib.Core.List.{List, [], ◌∷◌, Memᴰ}
use native.Mathlib.Omega.{arith}
use native.Mathlib.Decide.{ℕ_discrete}
use Rattle.files.specs.Table.{Rule, Numbered}
use Rattle.documents.specs.Paths.{Below, Context, Descending, towards}
use Rattle.documents.specs.Tree.{Forest, Holds, Document}
use Rattle.documents.specs.Obey.{Obeys}
use Rattle.documents.specs.Parts.{
  Unfolds,
  PartHolds,
  own,
  kid,
  Named,
  given,
  further,
  Falls,
  MayStand,
  Fits,
  PartsImplication,
  PartsObey,
}
use Rattle.documents.proofs.Paths.{
  below_trans,
  below_le,
  below_root,
  strictly_lt,
  parent_below,
  parent_strictly,
  parent_fuel,
  towards_below,
  towards_unique,
}
use Rattle.documents.proofs.Parts.{list_unfolds, unfolds_document, one_holds, parts_obey}
use Rattle.theory.specs.Walk.{Step, along, against, Reach, Dead}
use Rattle.theory.specs.Parts.{Part, path_of, ReachAny, RulesIn, Decides, meet_all, kids_of, part_zero}
use Rattle.theory.proofs.Walks.{reach_trans, reach_step, reach_prefix, reach_start, reach_end}
use Rattle.theory.proofs.Kids.{
  Goals,
  KidOf,
  handed,
  alone,
  reach_climb,
  kid_goals,
  kid_stands,
  kid_reaches,
  kids_are,
  kids_cover,
  handed_kid,
}

-- an absence rule, whose context is a prefix of every goal, excludes two of the goals
pub record Clash (parent : ℕ → ℕ) (rules : List Rule) (goals : List ℕ) : Type 0 where
  pub r : ℕ
  pub ru : Rule
  pub rule : Numbered rules r ru
  pub absence : ru.kind ≡ 2
  pub context : ℕ
  pub is_context : Context parent ru.left ru.right context
  pub prefix : Below parent context (meet_all parent goals)
  pub left : ReachAny parent rules context goals ru.left
  pub right : ReachAny parent rules context goals ru.right

-- what a named part is: one with all the first goals, above their context, or one with a goal reachable from them
data Shape (parent : ℕ → ℕ) (rules : List Rule) (goals : List ℕ) (a : Part) : Type 0 where
  all : a.goals ≡ goals → Below parent a.path (meet_all parent goals) → Shape parent rules goals a
  single : (g : ℕ) → a.goals ≡ (g ∷ []) → ReachAny parent rules 0 goals g → Shape parent rules goals a

-- with one goal, reachable from any is reachable from it
pub only_goal : {parent : ℕ → ℕ} {rules : List Rule} {c g y : ℕ} → ReachAny parent rules c (g ∷ []) y → Reach parent rules c g y
only_goal {parent} {rules} {c} {g} {y} r = subst (λ (z : ℕ). Reach parent rules c z y) (Memᴰ.eq_of_singleton r.listed) r.reach

module _ {parent : ℕ → ℕ} {rules : List Rule} {goals : List ℕ} (desc : Descending parent) where
  -- what a named part reaches the first goals reach
  shape_reaches : {a : Part} {y : ℕ} → Shape parent rules goals a → ReachAny parent rules a.path a.goals y
      → ReachAny parent rules 0 goals y
  shape_reaches {a} (all e b) r = record {
    goal = r.goal;
    listed = subst (λ (l : List ℕ). Memᴰ r.goal l) e r.listed;
    reach = reach_prefix (below_root desc a.path) r.reach;
  }
  shape_reaches {a} {y} (single g e s) r = record {
    goal = s.goal;
    listed = s.listed;
    reach = reach_trans s.reach
        (reach_prefix (below_root desc a.path) (only_goal (subst (λ (l : List ℕ). ReachAny parent rules a.path l y) e r)));
  }

  shape_kid : {a k : Part} → Shape parent rules goals a → KidOf parent rules a.path a.goals k → Shape parent rules goals k
  shape_kid {a} (all e b) (handed n) =
      all e (subst (λ (l : List ℕ). Below parent (towards parent a.path (meet_all parent a.goals)) (meet_all parent l)) e
      (towards_below desc (record { below = subst (λ (l : List ℕ). Below parent a.path (meet_all parent l)) (sym e) b; other = n })))
  shape_kid (single g e s) (handed n) = single g e s
  shape_kid s (alone x n r) = single x refl (shape_reaches s r)

module _ {parent : ℕ → ℕ} {rules : List Rule} {count : ℕ} {reach : ℕ → ℕ → ℕ → Bool} (desc : Descending parent)
    (within : RulesIn count rules) (decides : Decides parent rules count reach) where
  holds_reached : {a : Part} {y : ℕ} → Goals parent count a.path a.goals → PartHolds path_of (kids_of parent count reach) a y
      → ReachAny parent rules a.path a.goals y
  holds_reached {a} v (own e) = record {
    goal = v.some;
    listed = v.listed;
    reach = subst (λ (z : ℕ). Reach parent rules a.path v.some z) e (reach_climb desc (v.below v.some v.listed));
  }
  holds_reached {a} v (kid k m h) =
      let q = kids_are desc within decides a k v m in
      kid_reaches desc within decides v q (holds_reached (kid_goals desc within decides v q) h)

  kid_greater : {x : ℕ} {k : Part} → MayStand parent count path_of x k → x < k.path
  kid_greater {k = k} s = omega (arith, desc.smaller k.path s.inner, s.parent_is)

  reached_holds : (left : ℕ) (a : Part) (y : ℕ) → count ≤ a.path + left → Goals parent count a.path a.goals
      → ReachAny parent rules a.path a.goals y → PartHolds path_of (kids_of parent count reach) a y
  reached_holds zero a y l v r =
      absurd (omega (arith, below_le desc (v.below v.some v.listed), v.small v.some v.listed))
  reached_holds (suc left) a y l v r = pick (ℕ_discrete a.path y) (λ k h. reached_holds left k y h)
    where
      pick : Dec (a.path ≡ y)
          → ((k : Part) → count ≤ k.path + left → Goals parent count k.path k.goals → ReachAny parent rules k.path k.goals y
          → PartHolds path_of (kids_of parent count reach) k y)
          → PartHolds path_of (kids_of parent count reach) a y
      pick (yes e) again = own e
      pick (no n) again =
          let c = kids_cover desc within decides a v n r in
          let q = kids_are desc within decides a c.part v c.listed in
          let g : a.path < c.part.path = kid_greater (kid_stands desc within decides v q) in
          kid c.part c.listed (again c.part (omega arith) (kid_goals desc within decides v q) c.reaches)

  -- a part holds exactly what is reachable inside its path from any of its goals
  pub part_holds_iff : {a : Part} {y : ℕ} → Goals parent count a.path a.goals
      → PartHolds path_of (kids_of parent count reach) a y ↔ ReachAny parent rules a.path a.goals y
  part_holds_iff {a} {y} v = (holds_reached v, reached_holds count a y (omega arith) v)

  module _ {goals : List ℕ} (v : Goals parent count 0 goals) where
    -- the goals of a named part are goals that it may have
    pub named_goals : {a : Part} → Named (kids_of parent count reach) (part_zero goals ∷ []) a → Goals parent count a.path a.goals
    named_goals (given m) = subst (λ (z : Part). Goals parent count z.path z.goals) (sym (Memᴰ.eq_of_singleton m)) v
    named_goals (further {p = a} k n m) =
        kid_goals desc within decides (named_goals n) (kids_are desc within decides k a (named_goals n) m)

    named_kid : {a k : Part} → Named (kids_of parent count reach) (part_zero goals ∷ []) a → Memᴰ k (kids_of parent count reach a)
        → KidOf parent rules a.path a.goals k
    named_kid {a} {k} n m = kids_are desc within decides a k (named_goals n) m

    -- every naming of a named part fits the table
    pub fits : Fits parent count path_of (kids_of parent count reach) (part_zero goals ∷ [])
    fits = record { each = λ a k n m. kid_stands desc within decides (named_goals n) (named_kid n m) }

    -- no naming goes round
    pub falls : Falls (kids_of parent count reach) (λ a. count - a.path) (part_zero goals ∷ [])
    falls = record {
      each = λ a k n m. let s = fits.each a k n m in omega (arith, kid_greater s, s.small);
    }

    -- part 0 stands for some tree
    pub tree_exists : (d : Forest) × Unfolds path_of (kids_of parent count reach) (part_zero goals ∷ []) d
    tree_exists = list_unfolds falls

    chain_in_lem : (left c : ℕ) → c ≤ left → Below parent c (meet_all parent goals)
        → Named (kids_of parent count reach) (part_zero goals ∷ []) (record { path = c; goals = goals })
    chain_in_lem zero c l b =
        let e : 0 ≡ c = omega arith in
        subst (λ (z : ℕ). Named (kids_of parent count reach) (part_zero goals ∷ []) (record { path = z; goals = goals })) e
        (given (Memᴰ.head refl))
    chain_in_lem (suc left) c l b =
        pick (ℕ_discrete 0 c) (chain_in_lem left (parent c) (parent_fuel desc c left l) (below_trans (parent_below c) b))
      where
        pick : Dec (0 ≡ c) → Named (kids_of parent count reach) (part_zero goals ∷ []) (record { path = parent c; goals = goals })
            → Named (kids_of parent count reach) (part_zero goals ∷ []) (record { path = c; goals = goals })
        pick (yes e) again =
            subst (λ (z : ℕ). Named (kids_of parent count reach) (part_zero goals ∷ []) (record { path = z; goals = goals })) e
            (given (Memᴰ.head refl))
        pick (no n) again =
            let s = parent_strictly desc c (omega arith) in
            let t : parent c < c = strictly_lt desc s in
            let a : Part = record { path = parent c; goals = goals } in
            further a again
            (subst (λ (z : ℕ). Memᴰ (record { path = z; goals = goals }) (kids_of parent count reach a))
            (sym (towards_unique desc s refl b)) (handed_kid desc within decides a (λ e. omega (arith, below_le desc b))))

    -- every part on the way from the root to the goals' context, both ends included, carries all goals
    pub chain_named : {c : ℕ} → Below parent c (meet_all parent goals)
        → Named (kids_of parent count reach) (part_zero goals ∷ []) (record { path = c; goals = goals })
    chain_named {c} b = chain_in_lem c c (omega arith) b

    named_shape : {a : Part} → Named (kids_of parent count reach) (part_zero goals ∷ []) a → Shape parent rules goals a
    named_shape (given m) =
        subst (λ (z : Part). Shape parent rules goals z) (sym (Memᴰ.eq_of_singleton m))
        (all refl (below_root desc (meet_all parent goals)))
    named_shape (further a n m) = shape_kid desc (named_shape n) (named_kid n m)

    -- a step is an implication that every part obeys
    step_obeyed : {p code q : ℕ} → Step parent rules p code q
        → PartsImplication parent path_of (kids_of parent count reach) (part_zero goals ∷ []) p q
    step_obeyed {q = q} s = record {
      every = λ c x a n e h.
          let w = named_goals n in
          let r = (part_holds_iff w).0 h in
          (part_holds_iff w).1 (record {
            goal = r.goal;
            listed = r.listed;
            reach = reach_trans r.reach (reach_step (reach_end r.reach) s (subst (λ (z : ℕ). Below parent z q) (sym e) x.right));
          });
    }

    module _ (alive : (g : ℕ) → Memᴰ g goals → Dead parent rules g → ⊥) (apart : Clash parent rules goals → ⊥) where
      never_both : {a : Part} (r : ℕ) (ru : Rule) → Numbered rules r ru → ru.kind ≡ 2 → Context parent ru.left ru.right a.path
          → Shape parent rules goals a → ReachAny parent rules a.path a.goals ru.left
          → ReachAny parent rules a.path a.goals ru.right → ⊥
      never_both {a} r ru n k x (all e b) hl hr =
          apart (record {
            r = r;
            ru = ru;
            rule = n;
            absence = k;
            context = a.path;
            is_context = x;
            prefix = b;
            left = subst (λ (l : List ℕ). ReachAny parent rules a.path l ru.left) e hl;
            right = subst (λ (l : List ℕ). ReachAny parent rules a.path l ru.right) e hr;
          })
      never_both {a} r ru n k x (single g e s) hl hr =
          let ll = only_goal (subst (λ (l : List ℕ). ReachAny parent rules a.path l ru.left) e hl) in
          let lr = only_goal (subst (λ (l : List ℕ). ReachAny parent rules a.path l ru.right) e hr) in
          alive s.goal s.listed (record {
            y = g;
            r = r;
            by = record {
              ru = ru;
              rule = n;
              absence = k;
              context = a.path;
              is_context = x;
              prefix = reach_start ll;
              here = s.reach;
              left = ll;
              right = lr;
            };
          })

      parts_obeyed : PartsObey parent path_of (kids_of parent count reach) (part_zero goals ∷ []) rules
      parts_obeyed = record {
        each = λ r ru n. record {
          implication = λ k. step_obeyed (along r ru n (inl k) refl refl refl);
          absence = λ k. record {
            never = λ c x a m e hl hr.
                let w = named_goals m in
                never_both r ru n k (subst (Context parent ru.left ru.right) (sym e) x) (named_shape m) ((part_holds_iff w).0 hl)
                ((part_holds_iff w).0 hr);
          };
          along = λ k. step_obeyed (along r ru n (inr k) refl refl refl);
          against = λ k. step_obeyed (against r ru n k refl refl refl);
        };
      }

      -- the tree obeys every rule
      pub tree_obeys : {d : Forest} → Unfolds path_of (kids_of parent count reach) (part_zero goals ∷ []) d → Obeys parent rules d
      tree_obeys u = (parts_obey u rules).0 parts_obeyed

    -- the tree is a document of the table
    pub tree_document : {d : Forest} → Unfolds path_of (kids_of parent count reach) (part_zero goals ∷ []) d → Document parent count d
    tree_document u = unfolds_document fits refl u

    -- the tree holds exactly what is reachable inside the root from a goal
    pub tree_holds : {d : Forest} {y : ℕ} → Unfolds path_of (kids_of parent count reach) (part_zero goals ∷ []) d
        → Holds d y ↔ ReachAny parent rules 0 goals y
    tree_holds u = (λ h. (part_holds_iff v).0 ((one_holds u).1 h), λ r. (one_holds u).0 ((part_holds_iff v).1 r))
