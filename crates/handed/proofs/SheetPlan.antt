-- On the sheet of a table the plan is that of the theory: the goals of the parts on each path, the order of the paths, and the number of
-- the first part on each.
use Prim.Native.Nat.{ℕ, zero, suc, ◌+◌, ◌%◌, ◌^◌, ◌≤◌, ◌<◌}
use mathlib.Core.Path.{◌≡◌, refl, sym, ap, ◌∙◌, subst}
use mathlib.Core.Logic.{◌⊎◌, inl, inr, ◌↔◌}
use mathlib.Core.Bool.{Bool, true, false}
use mathlib.Core.List.{List, [], ◌∷◌, ◌++◌, Memᴰ}
use native.Mathlib.Omega.{arith}
use native.Mathlib.Decide.{ℕ_discrete}
use lib.Dec.{T, eqb, eqb→eq, eqb_refl, lit<}
use lib.ListN.{length, get_or, set, replicate, length-set, length-replicate}
use lib.Seq.{get_or-set_same, get_or-set_other}
use borrow.Author.Tests.{eqb-true, eqb-false, eq-eqb, ne_eqb}
use Rattle.files.specs.Table.{Rule}
use Rattle.files.specs.Sets.{Has, hasb, with_path, members}
use Rattle.files.proofs.SetBits.{same_sets, has_with, with_lt, hasb_true}
use Rattle.files.proofs.SetMembers.{size_le}
use Rattle.documents.specs.Paths.{Below, StrictlyBelow, Descending, depth_of}
use Rattle.documents.proofs.Paths.{below_le, below_trans, towards_below, depth_root, depth_child}
use Rattle.theory.specs.Reachable.{Fits, reachable, subtree}
use Rattle.theory.specs.Order.{Sorted}
use Rattle.theory.specs.Handed.{
  Start,
  ReachWords,
  gather,
  climb_all,
  severalb,
  one_kids,
  chain,
  all_kids,
  kids_at,
  root_goals,
  goal_rows,
  layer,
  layers_from,
  path_order,
  parts_on,
  place_of,
}
use Rattle.theory.proofs.Kids.{meet_above}
use Rattle.theory.proofs.Least.{passing_iff, passing_small}
use Rattle.theory.proofs.Reachable.{subtree_iff, subtree_small}
use Rattle.theory.proofs.HandedDocuments.{reachable_words}
use Rattle.theory.proofs.HandedNamed.{top_small, chain_iff, goals_of, row_named}
use Rattle.theory.proofs.HandedOrder.{Earlier, shallower, beside, order_sorted, order_mem, order_in_table}
use Rattle.theory.proofs.HandedRows.{Begins, row_root, row_next_lem, row_small}
use Rattle.theory.proofs.HandedWords.{has_none, climb_iff, gather_iff, gather_small, Given}
use Rattle.reachable.specs.Sheet.{row, above_at, below_at, child_at, slot_of, paths_in}
use Rattle.reachable.specs.SheetWords.{PathWords, SetWords}
use Rattle.handed.specs.Goals.{one_in, all_in, chain_in, root_of}
use Rattle.handed.specs.Plan.{
  all_for,
  opened,
  goals_here,
  kids_here,
  plan_path,
  plan_paths,
  under_in,
  layers_in,
  order_in,
  Placing,
  placing,
  place_one,
  place_each,
}
use Rattle.handed.specs.Writer.{start_of}
use Rattle.handed.proofs.SheetGoals.{gather_same, kids_meeting, kids_onward}

-- the sheet of a table that fits, with what its rows say
pub record Told (parent : ℕ → ℕ) (rules : List Rule) (count : ℕ) (sheet : List ℕ) : Type 0 where
  pub fits : Fits parent rules count
  pub shallow : (x : ℕ) → x < count → depth_of parent x ≤ 8
  pub paths : PathWords parent count sheet
  pub sets : SetWords parent rules count sheet
  pub many : paths_in sheet ≡ count
  pub small : (i : ℕ) → get_or sheet i 0 < 2 ^ 64

climb_small : (parent : ℕ → ℕ) (fuel x w : ℕ) → w < 2 ^ 64 → climb_all parent fuel x w < 2 ^ 64
unfolding climb_all
climb_small parent zero x w l = with_lt w x l
climb_small parent (suc fuel) x w l = pick (eqb x 0) refl (climb_small parent fuel (parent x) (with_path w x) (with_lt w x l))
  where
    pick : (b : Bool) → eqb x 0 ≡ b → climb_all parent fuel (parent x) (with_path w x) < 2 ^ 64 → climb_all parent (suc fuel) x w < 2 ^ 64
    pick true e again = rw (climb_all, e) (with_lt w 0 l)
    pick false e again = rw (climb_all, e) again

module _ {parent : ℕ → ℕ} {rules : List Rule} {count : ℕ} {sheet : List ℕ} (told : Told parent rules count sheet) where
  desc : Descending parent
  desc = told.fits.descending

  few : count ≤ 64
  few = told.fits.few

  abbrev R : ℕ → ℕ → ℕ
  R = reachable parent rules count

  words : ReachWords parent rules count R
  words = reachable_words told.fits

  pub below_is : (c : ℕ) → c < count → row below_at sheet c ≡ subtree parent count c
  below_is c h =
      same_sets (row below_at sheet c) (subtree parent count c) (told.small (below_at + c)) (subtree_small desc c count h few)
      (λ y l. (λ m. (subtree_iff desc c count h few y).1 ((told.paths.below c y h).0 m), λ m. (told.paths.below c y h).1 ((subtree_iff desc c count h few y).0 m)))

  -- ---- the order of the paths

  has_layer : (d x : ℕ) → Has (layer parent count d) x ↔ ((x < count) × (depth_of parent x ≡ d))
  unfolding layer
  has_layer d x =
      let r = passing_iff (λ y. eqb (depth_of parent y) d) count x few in
      (λ m. ((r.0 m).0, eqb→eq (depth_of parent x) d (r.0 m).1), λ m. r.1 (m.0, subst (λ (z : ℕ). T (eqb (depth_of parent x) z)) m.1 (eqb_refl (depth_of parent x))))

  layer_small : (d : ℕ) → layer parent count d < 2 ^ 64
  unfolding layer
  layer_small d = passing_small (λ y. eqb (depth_of parent y) d) count

  under_layer : (d : ℕ) → 1 ≤ d → under_in sheet (layer parent count d) ≡ layer parent count (suc d)
  unfolding under_in
  under_layer d low =
      same_sets (under_in sheet (layer parent count d)) (layer parent count (suc d))
      (gather_small (λ c. row child_at sheet c) 64 (layer parent count d) 0 (layer_small d) (lit< tt) (λ c m. told.small (child_at + c)))
      (layer_small (suc d)) (λ k l. (λ m. (has_layer (suc d) k).1 (fore k ((given k).0 m)), λ m. (given k).1 (back k ((has_layer (suc d) k).0 m))))
    where
      given : (k : ℕ) → Has (under_in sheet (layer parent count d)) k ↔ (Has 0 k ⊎ Given (λ c. row child_at sheet c) (layer parent count d) k)
      given k = gather_iff (λ c. row child_at sheet c) 64 (layer parent count d) 0 k (layer_small d) (size_le (layer parent count d))

      fore : (k : ℕ) → Has 0 k ⊎ Given (λ c. row child_at sheet c) (layer parent count d) k → (k < count) × (depth_of parent k ≡ suc d)
      fore k (inl m) = absurd (has_none m)
      fore k (inr g) =
          let a = (has_layer d g.source).0 g.member in
          let b = (told.paths.child g.source k a.0).0 g.has in
          (b.1, depth_child desc k b.0 ∙ ap suc (ap (depth_of parent) b.2 ∙ a.1))

      back : (k : ℕ) → (k < count) × (depth_of parent k ≡ suc d) → Has 0 k ⊎ Given (λ c. row child_at sheet c) (layer parent count d) k
      back k m = pick (ℕ_discrete k 0)
        where
          pick : Dec (k ≡ 0) → Has 0 k ⊎ Given (λ c. row child_at sheet c) (layer parent count d) k
          pick (yes e) = absurd (omega (arith, m.1, ap (depth_of parent) e, depth_root desc))
          pick (no n) =
              let inner : 0 < k = omega (arith, n) in
              let less = desc.smaller k inner in
              let up : depth_of parent (parent k) ≡ d = omega (arith, depth_child desc k inner, m.1) in
              inr (record {
                source = parent k;
                member = (has_layer d (parent k)).1 (omega (arith, less, m.0), up);
                has = (told.paths.child (parent k) k (omega (arith, less, m.0))).1 (inner, m.0, refl);
              })

  first_layer : 0 < count → with_path 0 0 ≡ layer parent count 1
  first_layer some =
      same_sets (with_path 0 0) (layer parent count 1) (with_lt 0 0 (lit< tt)) (layer_small 1)
      (λ x l. (λ m. (has_layer 1 x).1 (fore x ((has_with 0 0 x (lit< tt)).0 m)), λ m. (has_with 0 0 x (lit< tt)).1 (inl (back x ((has_layer 1 x).0 m)))))
    where
      fore : (x : ℕ) → (x ≡ 0) ⊎ Has 0 x → (x < count) × (depth_of parent x ≡ 1)
      fore x (inl e) = (omega (arith, some, e), ap (depth_of parent) e ∙ depth_root desc)
      fore x (inr m) = absurd (has_none m)

      back : (x : ℕ) → (x < count) × (depth_of parent x ≡ 1) → x ≡ 0
      back x m = pick (ℕ_discrete x 0)
        where
          pick : Dec (x ≡ 0) → x ≡ 0
          pick (yes e) = e
          pick (no n) =
              absurd (omega (arith, m.1, depth_child desc x (omega (arith, n)), Rattle.reachable.proofs.Filling.depth_some parent desc (parent x)))

  layers_are : (left d : ℕ) → 1 ≤ d → layers_in sheet left (layer parent count d) ≡ layers_from parent count left d
  unfolding layers_in layers_from
  layers_are zero d low = refl
  layers_are (suc left) d low =
      ap (λ (l : List ℕ). members (layer parent count d) ++ l)
      (ap (layers_in sheet left) (under_layer d low) ∙ layers_are left (suc d) (omega arith))

  pub order_is : 0 < count → order_in sheet ≡ path_order parent count
  unfolding order_in path_order
  order_is some = ap (layers_in sheet 8) (first_layer some) ∙ layers_are 8 1 (omega arith)

  -- ---- the goals of the parts

  module _ {list : List ℕ} (goals top : ℕ) (begins : Begins parent count list (start_of goals top)) where
    abbrev start : Start
    start = start_of goals top

    abbrev pub whole : ℕ
    whole = chain parent count R start

    abbrev pub rows : List ℕ
    rows = goal_rows parent count R start

    pub top_in : top < count
    top_in = top_small begins desc few R

    chain_is : chain_in sheet goals top ≡ whole
    unfolding chain_in chain
    chain_is = pick (severalb goals) refl
      where
        none : {a : ℕ} → Has 0 a ⊎ Below parent a top → Below parent a top
        none (inl m) = absurd (has_none m)
        none (inr b) = b

        pick : (b : Bool) → severalb goals ≡ b → chain_in sheet goals top ≡ whole
        pick true e =
            rw (chain_in, chain, e)
            (same_sets (row above_at sheet top) (climb_all parent top top 0) (told.small (above_at + top)) (climb_small parent top top 0 (lit< tt))
            (λ a l.
            let r = climb_iff desc top top 0 a (omega arith) (omega (arith, top_in, few)) in
            (λ m. r.1 (inr ((told.paths.above top a top_in).0 m)), λ m. (told.paths.above top a top_in).1 (none (r.0 m)))))
        pick false e = rw (chain_in, chain, e)

    -- the goals of a part with the one goal g
    pub one_is : (c g : ℕ) → c < count → Below parent c g → g < count → one_in sheet (slot_of sheet c) c g ≡ one_kids parent count R c g
    unfolding one_in one_kids
    one_is c g hc b h =
        kids_meeting told.fits told.shallow told.paths told.sets c (with_path 0 g) g hc (with_lt 0 g (lit< tt))
        (λ x m. only x ((has_with 0 g x (omega (arith, few))).0 m))
      where
        only : (x : ℕ) → (x ≡ g) ⊎ Has 0 x → Below parent c x × (x < count)
        only x (inl e) = (subst (λ (z : ℕ). Below parent c z) (sym e) b, omega (arith, e, h))
        only x (inr m) = absurd (has_none m)

    goal_below : (g : ℕ) → Has goals g → Below parent top g × (g < count)
    goal_below g m =
        let l = (begins.word.is g).0 m in
        (subst (λ (z : ℕ). Below parent z g) (sym begins.top) (meet_above desc l), begins.goals_in.small g l)

    -- the goals of the part with all goals
    pub all_is : (c : ℕ) → Has whole c → all_in sheet goals top c ≡ all_kids parent count R start c
    unfolding all_in all_kids
    all_is c h = pick (eqb c top) refl
      where
        on : Below parent c top
        on = ((chain_iff begins desc few R c).0 h).1

        hc : c < count
        hc = omega (arith, below_le desc on, top_in)

        inner : (g : ℕ) → Has goals g → Below parent c g × (g < count)
        inner g m = (below_trans on (goal_below g m).0, (goal_below g m).1)

        pick : (b : Bool) → eqb c top ≡ b → all_in sheet goals top c ≡ all_kids parent count R start c
        pick true e =
            rw (all_in, all_kids, e) (kids_meeting told.fits told.shallow told.paths told.sets c goals top hc begins.word.small inner)
        pick false e =
            let under : StrictlyBelow parent c top = record { below = on; other = eqb-false c top e } in
            rw (all_in, all_kids, e)
            (kids_onward told.fits told.shallow told.paths told.sets c goals top hc begins.word.small inner under
            (λ g m. below_trans (towards_below desc under) (goal_below g m).0))

    -- the paths with numbers below c are planned as the theory says
    pub record Planned (c : ℕ) (plan : List ℕ) : Type 0 where
      pub long : length plan ≡ 195
      pub whole_is : get_or plan 192 0 ≡ whole
      pub goals_are : get_or plan 193 0 ≡ goals
      pub top_is : get_or plan 194 0 ≡ top
      pub rows_are : (x : ℕ) → x < c → get_or plan x 0 ≡ get_or rows x 0
      pub named_are : (x : ℕ) → x < c → get_or plan (64 + x) 0 ≡ kids_at parent count R start x (get_or rows x 0)

    opened_planned : Planned 0 (opened sheet goals top)
    unfolding opened
    opened_planned =
        let a : List ℕ = set (replicate 195 0) 192 (chain_in sheet goals top) in
        let b : List ℕ = set a 193 goals in
        let la : length a ≡ 195 = length-set (replicate 195 0) 192 (chain_in sheet goals top) ∙ length-replicate {A = ℕ} 195 0 in
        let lb : length b ≡ 195 = length-set a 193 goals ∙ la in
        record {
          long = length-set b 194 top ∙ lb;
          whole_is =
              get_or-set_other b 194 192 top 0 (λ e. omega arith) ∙ get_or-set_other a 193 192 goals 0 (λ e. omega arith)
              ∙ get_or-set_same (replicate 195 0) 192 (chain_in sheet goals top) 0 (omega (arith, length-replicate {A = ℕ} 195 0)) ∙ chain_is;
          goals_are = get_or-set_other b 194 193 top 0 (λ e. omega arith) ∙ get_or-set_same a 193 goals 0 (omega (arith, la));
          top_is = get_or-set_same b 194 top 0 (omega (arith, lb));
          rows_are = λ x h. absurd (omega arith);
          named_are = λ x h. absurd (omega arith);
        }

    module _ (c : ℕ) (plan : List ℕ) (hc : c < count) (is : Planned c plan) where
      here_is : goals_here sheet plan c ≡ get_or rows c 0
      unfolding goals_here root_of root_goals
      here_is = pick (eqb c 0) refl
        where
          pick : (b : Bool) → eqb c 0 ≡ b → goals_here sheet plan c ≡ get_or rows c 0
          pick true e =
              let z = eqb-true c 0 e in
              rw (goals_here, e, is.goals_are)
              (sym (row_root parent count R start desc (omega (arith, hc))) ∙ ap (λ (x : ℕ). get_or rows x 0) (sym z))
          pick false e =
              let inner : 0 < c = omega (arith, eqb-false c 0 e) in
              rw (goals_here, e, told.paths.parent_is c inner hc, is.named_are (parent c) (desc.smaller c inner), below_is c hc)
              (sym (row_next_lem parent count R start desc c inner hc))

      allfor_is : Has whole c → all_for sheet plan c ≡ all_kids parent count R start c
      unfolding all_for
      allfor_is h =
          let t : top % 64 ≡ top = omega (arith, top_in, few) in
          rw (is.goals_are, is.top_is, t) (all_is c h)

      kids_are : kids_here sheet plan c (get_or rows c 0) ≡ kids_at parent count R start c (get_or rows c 0)
      unfolding kids_here kids_at
      kids_are = pick (hasb whole c) refl
        where
          ones : (s : ℕ) → gather (one_in sheet (slot_of sheet c) c) 64 (get_or rows c 0) s ≡ gather (one_kids parent count R c) 64 (get_or rows c 0) s
          ones s =
              gather_same (one_in sheet (slot_of sheet c) c) (one_kids parent count R c) 64 (get_or rows c 0) s
              (row_small parent count R start desc begins.word.small c hc)
              (λ g m.
              let v = goals_of desc told.fits.rules_in few words begins (row_named desc told.fits.rules_in few words begins hc m) in
              one_is c g hc (v.below g (Memᴰ.head refl)) (v.small g (Memᴰ.head refl)))

          pick : (b : Bool) → hasb whole c ≡ b → kids_here sheet plan c (get_or rows c 0) ≡ kids_at parent count R start c (get_or rows c 0)
          pick true e = rw (kids_here, kids_at, is.whole_is, e, allfor_is (hasb_true whole c e)) (ones (all_kids parent count R start c))
          pick false e = rw (kids_here, kids_at, is.whole_is, e) (ones 0)

      path_planned : Planned (suc c) (plan_path sheet plan c)
      unfolding plan_path
      path_planned =
          let here = goals_here sheet plan c in
          let named = kids_here sheet plan c here in
          let one = set plan c here in
          let l : length one ≡ 195 = length-set plan c here ∙ is.long in
          let keep : (i : ℕ) → (i ≡ c → ⊥) → (i ≡ 64 + c → ⊥) → get_or (set one (64 + c) named) i 0 ≡ get_or plan i 0 =
          λ i n m. get_or-set_other one (64 + c) i named 0 m ∙ get_or-set_other plan c i here 0 n in
          record {
            long = length-set one (64 + c) named ∙ l;
            whole_is = keep 192 (λ e. omega (arith, few)) (λ e. omega (arith, few)) ∙ is.whole_is;
            goals_are = keep 193 (λ e. omega (arith, few)) (λ e. omega (arith, few)) ∙ is.goals_are;
            top_is = keep 194 (λ e. omega (arith, few)) (λ e. omega (arith, few)) ∙ is.top_is;
            rows_are = λ x h. row_at x h (ℕ_discrete x c);
            named_are = λ x h. named_at_lem x h (ℕ_discrete x c);
          }
        where
          row_at : (x : ℕ) → x < suc c → Dec (x ≡ c) → get_or (plan_path sheet plan c) x 0 ≡ get_or rows x 0
          row_at x h (yes e) =
              get_or-set_other (set plan c (goals_here sheet plan c)) (64 + c) x (kids_here sheet plan c (goals_here sheet plan c)) 0 (λ z. omega arith)
              ∙ ap (λ (i : ℕ). get_or (set plan c (goals_here sheet plan c)) i 0) e
              ∙ get_or-set_same plan c (goals_here sheet plan c) 0 (omega (arith, is.long, hc, few)) ∙ here_is ∙ ap (λ (i : ℕ). get_or rows i 0) (sym e)
          row_at x h (no n) =
              get_or-set_other (set plan c (goals_here sheet plan c)) (64 + c) x (kids_here sheet plan c (goals_here sheet plan c)) 0 (λ z. omega arith)
              ∙ get_or-set_other plan c x (goals_here sheet plan c) 0 n ∙ is.rows_are x (omega (arith, n))

          named_at_lem : (x : ℕ) → x < suc c → Dec (x ≡ c)
              → get_or (plan_path sheet plan c) (64 + x) 0 ≡ kids_at parent count R start x (get_or rows x 0)
          named_at_lem x h (yes e) =
              ap (λ (i : ℕ). get_or (plan_path sheet plan c) (64 + i) 0) e
              ∙ get_or-set_same (set plan c (goals_here sheet plan c)) (64 + c) (kids_here sheet plan c (goals_here sheet plan c)) 0 (omega (arith, length-set plan c (goals_here sheet plan c), is.long, hc, few))
              ∙ ap (kids_here sheet plan c) here_is ∙ kids_are
              ∙ ap (λ (i : ℕ). kids_at parent count R start i (get_or rows i 0)) (sym e)
          named_at_lem x h (no n) =
              get_or-set_other (set plan c (goals_here sheet plan c)) (64 + c) (64 + x) (kids_here sheet plan c (goals_here sheet plan c)) 0 (λ z. omega (arith, n))
              ∙ get_or-set_other plan c (64 + x) (goals_here sheet plan c) 0 (λ z. omega (arith, hc, few))
              ∙ is.named_are x (omega (arith, n))

    paths_planned : (left c : ℕ) (plan : List ℕ) → c + left ≡ count → Planned c plan → Planned count (plan_paths sheet left c plan)
    unfolding plan_paths
    paths_planned zero c plan e is = subst (λ (n : ℕ). Planned n plan) (omega arith) is
    paths_planned (suc left) c plan e is =
        paths_planned left (suc c) (plan_path sheet plan c) (omega arith) (path_planned c plan (omega arith) is)

    goals_planned : Planned count (plan_paths sheet (paths_in sheet) 0 (opened sheet goals top))
    goals_planned = paths_planned (paths_in sheet) 0 (opened sheet goals top) (omega (arith, told.many)) opened_planned

    -- ---- the number of the first part on each path

    first_kept : (plan : List ℕ) (d v : ℕ) → d < count → Planned count plan → Planned count (set plan (128 + d) v)
    first_kept plan d v h is =
        let keep : (i : ℕ) → (i ≡ 128 + d → ⊥) → get_or (set plan (128 + d) v) i 0 ≡ get_or plan i 0 = λ i n. get_or-set_other plan (128 + d) i v 0 n in
        record {
          long = length-set plan (128 + d) v ∙ is.long;
          whole_is = keep 192 (λ e. omega (arith, few)) ∙ is.whole_is;
          goals_are = keep 193 (λ e. omega (arith, few)) ∙ is.goals_are;
          top_is = keep 194 (λ e. omega (arith, few)) ∙ is.top_is;
          rows_are = λ x l. keep x (λ e. omega (arith, few)) ∙ is.rows_are x l;
          named_are = λ x l. keep (64 + x) (λ e. omega (arith, few)) ∙ is.named_are x l;
        }

    parts_same : (plan : List ℕ) (c : ℕ) → c < count → Planned count plan → parts_on (get_or plan 192 0) plan c ≡ parts_on whole rows c
    unfolding parts_on
    parts_same plan c h is = rw (is.whole_is, is.rows_are c h)

    -- how many parts are on the paths of a list
    unfoldable pub parts_in : List ℕ → ℕ
    parts_in [] = 0
    parts_in (c ∷ rest) = parts_on whole rows c + parts_in rest

    Inside : List ℕ → Type 0
    Inside l = (c : ℕ) → Memᴰ c l → c < count

    place_plan : (l : List ℕ) (p : Placing) → Inside l → Planned count p.plan → Planned count (place_each l p).plan
    unfolding place_each place_one Inside
    place_plan [] p inside is = is
    place_plan (c ∷ l) p inside is =
        place_plan l (place_one c p) (λ d m. inside d (Memᴰ.tail m)) (first_kept p.plan c p.parts (inside c (Memᴰ.head refl)) is)

    place_parts : (l : List ℕ) (p : Placing) → Inside l → Planned count p.plan → (place_each l p).parts ≡ p.parts + parts_in l
    unfolding place_each place_one parts_in Inside
    place_parts [] p inside is = omega arith
    place_parts (c ∷ l) p inside is =
        let h = inside c (Memᴰ.head refl) in
        omega (
          arith,
          place_parts l (place_one c p) (λ d m. inside d (Memᴰ.tail m)) (first_kept p.plan c p.parts h is),
          parts_same p.plan c h is,
        )

    place_other : (k : ℕ) (l : List ℕ) (p : Placing) → (Memᴰ k l → ⊥) → get_or (place_each l p).plan (128 + k) 0 ≡ get_or p.plan (128 + k) 0
    unfolding place_each place_one
    place_other k [] p n = refl
    place_other k (d ∷ l) p n =
        place_other k l (place_one d p) (λ m. n (Memᴰ.tail m))
        ∙ get_or-set_other p.plan (128 + d) (128 + k) p.parts 0 (λ e. n (Memᴰ.head (omega arith)))

    earlier_other : {x : ℕ} → Earlier parent x x → ⊥
    earlier_other (shallower h) = omega arith
    earlier_other (beside e h) = omega arith

    place_at : (k : ℕ) {l : List ℕ} (p : Placing) → Sorted (Earlier parent) l → Memᴰ k l → Inside l → Planned count p.plan
        → get_or (place_each l p).plan (128 + k) 0 ≡ p.parts + place_of whole rows l k
    unfolding place_each place_one place_of Inside
    place_at k p Sorted.none m inside is = absurd (mathlib.Core.List.Memᴰ.not-nil m)
    place_at k p (Sorted.next {a = d} {rest = l} h s) m inside is =
        pick (ℕ_discrete k d) (λ t i. place_at k (place_one d p) s t i (first_kept p.plan d p.parts (inside d (Memᴰ.head refl)) is))
      where
        tail : (k ≡ d → ⊥) → Memᴰ k (d ∷ l) → Memᴰ k l
        tail n (Memᴰ.head e) = absurd (n e)
        tail n (Memᴰ.tail t) = t

        low : d < count
        low = inside d (Memᴰ.head refl)

        pick : Dec (k ≡ d)
            → (Memᴰ k l → Inside l → get_or (place_each l (place_one d p)).plan (128 + k) 0 ≡ (place_one d p).parts + place_of whole rows l k)
            → get_or (place_each (d ∷ l) p).plan (128 + k) 0 ≡ p.parts + place_of whole rows (d ∷ l) k
        pick (yes e) again =
            place_other k l (place_one d p) (λ t. earlier_other (subst (λ (z : ℕ). Earlier parent d z) e (h k t)))
            ∙ ap (λ (z : ℕ). get_or (set p.plan (128 + d) p.parts) (128 + z) 0) e
            ∙ get_or-set_same p.plan (128 + d) p.parts 0 (omega (arith, is.long, low, few))
            ∙ rw (place_of, eq-eqb d k (sym e)) (omega arith)
        pick (no n) again =
            again (tail n m) (λ c t. inside c (Memᴰ.tail t))
            ∙ rw (place_of, ne_eqb d k (λ e. n (sym e))) (omega (arith, parts_same p.plan d low is))

    place_le : (l : List ℕ) (k : ℕ) → place_of whole rows l k ≤ parts_in l
    unfolding place_of parts_in
    place_le [] k = omega arith
    place_le (d ∷ l) k = pick (eqb d k) refl (place_le l k)
      where
        pick : (b : Bool) → eqb d k ≡ b → place_of whole rows l k ≤ parts_in l → place_of whole rows (d ∷ l) k ≤ parts_in (d ∷ l)
        pick true e again = rw (place_of, e) (omega arith)
        pick false e again = rw (place_of, e) (omega (arith, again))

    -- the plan with the parts numbered, and how many parts there are
    pub record Numbered (plan : List ℕ) (parts : ℕ) : Type 0 where
      pub planned : Planned count plan
      pub all : parts ≡ parts_in (path_order parent count)
      pub first : (k : ℕ) → k < count → get_or plan (128 + k) 0 ≡ place_of whole rows (path_order parent count) k
      pub low : (k : ℕ) → place_of whole rows (path_order parent count) k ≤ parts

    pub plan_numbered : Numbered (Rattle.handed.specs.Plan.planned sheet goals top).plan (Rattle.handed.specs.Plan.planned sheet goals top).parts
    unfolding Rattle.handed.specs.Plan.planned Inside
    plan_numbered =
        let order = path_order parent count in
        let p = placing 0 (plan_paths sheet (paths_in sheet) 0 (opened sheet goals top)) in
        let inside = order_in_table parent count few in
        let parts : (place_each order p).parts ≡ parts_in order = place_parts order p inside goals_planned ∙ omega arith in
        rw (order_is (omega (arith, top_in))) (record {
          planned = place_plan order p inside goals_planned;
          all = parts;
          first = λ k h. place_at k p (order_sorted parent count few) ((order_mem parent count few desc k (told.shallow k h)).1 h) inside goals_planned ∙ omega arith;
          low = λ k. omega (arith, place_le order k, parts);
        })
