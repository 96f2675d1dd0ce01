-- The computed document is the one that 01 writes down.
use Prim.Native.Nat.{ℕ, ◌^◌, ◌≤◌, ◌<◌}
use mathlib.Core.Path.{◌≡◌, refl, sym, ap, subst, ◌∙◌}
use mathlib.Core.Logic.{◌↔◌}
use mathlib.Core.Bool.{Bool, true, false, not, ◌&&◌, false≢true}
use mathlib.Core.List.{List, [], ◌∷◌, Memᴰ}
use native.Mathlib.Omega.{arith}
use lib.Dec.{eqb}
use borrow.Author.Tests.{eqb-true, eqb-false}
use Rattle.files.specs.Table.{Rule}
use Rattle.files.specs.Sets.{Has, hasb, common, members}
use Rattle.files.proofs.SetBits.{hasb_true, hasb_has, has_common, common_lt}
use Rattle.files.proofs.SetMembers.{mem_members, members_ascending}
use Rattle.documents.specs.Paths.{Below, StrictlyBelow, Descending, towards, depth_of}
use Rattle.documents.specs.Parts.{further}
use Rattle.documents.proofs.Paths.{below_le, strictly_lt, parent_strictly, towards_below, towards_unique, depth_child}
use Rattle.theory.specs.Parts.{Part, path_of, RulesIn, meet_all, child_for, kids_of, part_zero}
use Rattle.theory.specs.Reachable.{subtree}
use Rattle.theory.specs.Order.{NumberedIn, Sorted, Matches, SamePart, Precedes, LaysDown, WritesParts}
use Rattle.theory.specs.Handed.{
  Start,
  ReachWords,
  word_reach,
  each_of,
  only_if,
  one_kids,
  chain,
  all_kids,
  goal_rows,
  path_order,
  child_paths,
  place_of,
  number_of,
  kids_on,
  entry_on,
  entries_on,
  handed_entries,
}
use Rattle.theory.proofs.Reachable.{subtree_iff}
use Rattle.theory.proofs.HandedKids.{KidBy, all, alone}
use Rattle.theory.proofs.HandedRows.{Begins, one_part, all_part, row, KidGoal, of_all, of_one, all_kids_small, one_kids_small}
use Rattle.theory.proofs.HandedNamed.{chain_iff, NamedPart, goals_of, kid_may_stand, all_named, kids_of_all, kids_of_one, next_row, row_named}
use Rattle.theory.proofs.HandedOrder.{
  beside,
  child_mem,
  order_in_table,
  block,
  InBlock,
  in_block,
  block_sorted,
  block_path,
  blocks_apart,
  block_on,
  number_all,
  number_one,
}
use Rattle.theory.proofs.Order.{precedes_asym}
use Rattle.theory.proofs.Sorted.{
  numbered_member,
  member_numbered,
  sorted_less,
  each_from,
  from_each,
  sorted_each,
  matches_append,
  matches_each,
  matches_map,
  matches_right,
  matches_partner,
  matches_sorted,
  ascending_sorted,
  sorted_ascending,
}
use Rattle.theory.proofs.HandedParts.{
  handed_parts,
  in_order,
  row_word,
  parts_named,
  parts_every,
  chain_several,
  parts_ordered,
  parts_begin,
}

-- a part is equal to itself
same_part : (a : Part) → SamePart a a
same_part a = record { path = refl; goals = λ g. (λ m. m, λ m. m) }

-- a member that stands in both lists if the test passes
only_matches : {A B : Type 0} {Fit : A → B → Type 0} (test : Bool) (a : A) (b : B) → (test ≡ true → Fit a b)
    → Matches Fit (only_if test a) (only_if test b)
unfolding only_if
only_matches true a b h = Matches.next (h refl) Matches.none
only_matches false a b h = Matches.none

-- the children of a part, on path k and in all, in their order: the one with all goals if `handed`, those with a goal of w
abbrev kid_block : (parent : ℕ → ℕ) (count : ℕ) (R : ℕ → ℕ → ℕ) (goals : List ℕ) (start : Start) (handed : Bool) (w k : ℕ) → List Part
kid_block parent count R goals start handed w k =
    block goals (handed && hasb (chain parent count R start) k) (common w (subtree parent count k)) k

abbrev kid_parts : (parent : ℕ → ℕ) (count : ℕ) (R : ℕ → ℕ → ℕ) (goals : List ℕ) (start : Start) (c : ℕ) (handed : Bool) (w : ℕ) → List Part
kid_parts parent count R goals start c handed w =
    each_of (kid_block parent count R goals start handed w) (members (child_paths parent count c))

module _ {parent : ℕ → ℕ} {rules : List Rule} {count : ℕ} {R : ℕ → ℕ → ℕ} {goals : List ℕ} {start : Start} (desc : Descending parent)
    (within : RulesIn count rules) (few : count ≤ 64) (shallow : (x : ℕ) → x < count → depth_of parent x ≤ 8)
    (words : ReachWords parent rules count R) (begins : Begins parent count goals start) where
  module _ (c : ℕ) (handed : Bool) (w : ℕ) (small : w < 2 ^ 64) where
    kid_block_lem : (k : ℕ) (a : Part) → Memᴰ a (kid_block parent count R goals start handed w k)
        ↔ InBlock goals (handed && hasb (chain parent count R start) k) (common w (subtree parent count k)) k a
    kid_block_lem k a =
        in_block goals (common w (subtree parent count k)) k (common_lt w (subtree parent count k) small)
        (handed && hasb (chain parent count R start) k) a

    on_chain : (k : ℕ) → handed && hasb (chain parent count R start) k ≡ true → Has (chain parent count R start) k
    on_chain k e = hasb_true (chain parent count R start) k (second handed e)
      where
        second : (b : Bool) → b && hasb (chain parent count R start) k ≡ true → hasb (chain parent count R start) k ≡ true
        second true e = e
        second false e = absurd (false≢true e)

    kids_ordered : Sorted (Precedes parent) (kid_parts parent count R goals start c handed w)
    kids_ordered =
        sorted_each (kid_block parent count R goals start handed w) (ascending_sorted (members_ascending (child_paths parent count c)))
        (λ k m.
        block_sorted goals (common w (subtree parent count k)) k (common_lt w (subtree parent count k) small)
        (handed && hasb (chain parent count R start) k) (λ t. chain_several desc within few shallow words begins (on_chain k t)))
        (λ k l x y e p q m n. blocks_apart (beside (level k l p q) e) (block_path ((kid_block_lem k x).0 m)) (block_path ((kid_block_lem l y).0 n)))
      where
        level : (k l : ℕ) → Memᴰ k (members (child_paths parent count c)) → Memᴰ l (members (child_paths parent count c))
            → depth_of parent k ≡ depth_of parent l
        level k l p q =
            let r = (child_mem parent count few c k).0 p in
            let s = (child_mem parent count few c l).0 q in
            omega (arith, depth_child desc k r.0, depth_child desc l s.0, ap (depth_of parent) r.2, ap (depth_of parent) s.2)

    module _ (goal : (h : ℕ) → Has w h → KidGoal parent count R start c (row parent count R start c) h) where
      kids_numbered : Matches (λ a n. NumberedIn (handed_parts parent count R goals start) n a)
          (kid_parts parent count R goals start c handed w)
          (each_of (kids_on parent count R start (chain parent count R start) (goal_rows parent count R start) (path_order parent count) handed w)
          (members (child_paths parent count c)))
      unfolding kids_on block
      kids_numbered =
          matches_each (kid_block parent count R goals start handed w) _ (members (child_paths parent count c))
          (λ k m. on k ((child_mem parent count few c k).0 m))
        where
          ch : ℕ
          ch = chain parent count R start

          rs : List ℕ
          rs = goal_rows parent count R start

          in_row : (k : ℕ) → (0 < k) × (k < count) × (parent k ≡ c) → (h : ℕ)
              → Memᴰ h (members (common w (subtree parent count k))) → Has (row parent count R start k) h
          in_row k r h m =
              let s = (has_common w (subtree parent count k) h).0
              ((mem_members (common w (subtree parent count k)) h (common_lt w (subtree parent count k) small)).0 m) in
              let b = (subtree_iff desc k count r.1 few h).0 s.1 in
              (next_row desc within few words begins k h r.0 r.1).1
              (subst (λ (z : ℕ). KidGoal parent count R start z (row parent count R start z) h) (sym r.2) (goal h s.0), b.1, b.0)

          on : (k : ℕ) → (0 < k) × (k < count) × (parent k ≡ c)
              → Matches (λ a n. NumberedIn (handed_parts parent count R goals start) n a) (kid_block parent count R goals start handed w k)
              (kids_on parent count R start ch rs (path_order parent count) handed w k)
          on k r =
              matches_append
              (only_matches (handed && hasb ch k) (all_part k goals) (place_of ch rs (path_order parent count) k)
              (λ t. number_all goals ch rs (path_order parent count) k (in_order desc within few shallow words begins r.1) (on_chain k t)))
              (matches_map (one_part k) (number_of ch rs (path_order parent count) k) (members (common w (subtree parent count k)))
              (λ h m. number_one goals ch rs (path_order parent count) k h (row_word desc within few shallow words begins r.1)
              (in_order desc within few shallow words begins r.1) (in_row k r h m)))

      -- an entry lays its part down, where the blocks are the part's children
      lays_down : (a : Part) → a.path ≡ c
          → ((j : Part) → Memᴰ j (kids_of parent count (word_reach R) a) ↔ Memᴰ j (kid_parts parent count R goals start c handed w))
          → LaysDown (kids_of parent count (word_reach R)) (handed_parts parent count R goals start) a
          (entry_on parent count R start (chain parent count R start) (goal_rows parent count R start) (path_order parent count) c handed w)
      unfolding entry_on
      lays_down a e is = record {
        path = sym e;
        ascending = sorted_ascending
            (matches_sorted kids_ordered kids_numbered
            (λ x y m n p q r. sorted_less precedes_asym (parts_ordered desc within few shallow words begins) q r p)) (λ n m. omega arith);
        only = λ n m.
            let r = matches_partner kids_numbered m in
            record {
              kid = r.0;
              is_kid = (is r.0).1 r.1;
              standing = record { part = r.0; number = r.2; same = same_part r.0 };
            };
        all = λ j m.
            let n = member_numbered ((is j).0 m) in
            let r = matches_right kids_numbered n.1 in
            record {
              number = r.0;
              listed = numbered_member r.1;
              standing = record { part = j; number = r.2; same = same_part j };
            };
      }

  -- a child's path is one of the part's child paths
  kid_path : {a k : Part} → NamedPart parent count R goals a → Memᴰ k (kids_of parent count (word_reach R) a)
      → Memᴰ k.path (members (child_paths parent count a.path))
  kid_path {a} {k} n m =
      let s = kid_may_stand desc within few words begins n m in
      (child_mem parent count few a.path k.path).1 (s.inner, s.small, s.parent_is)

  -- a path of the chain under c is on the way to the goals' context
  chain_child : {c k : ℕ} → Has (chain parent count R start) k → 0 < k → parent k ≡ c
      → (not (eqb c start.top) ≡ true) × (k ≡ towards parent c (meet_all parent goals))
  chain_child {c} {k} h p e =
      let b = ((chain_iff begins desc few R k).0 h).1 in
      let s = subst (λ (z : ℕ). StrictlyBelow parent z k) e (parent_strictly desc k p) in
      (pick (eqb c start.top) refl b s, subst (λ (z : ℕ). k ≡ towards parent c z) begins.top (towards_unique desc s e b))
    where
      pick : (t : Bool) → eqb c start.top ≡ t → Below parent k start.top → StrictlyBelow parent c k → not (eqb c start.top) ≡ true
      pick true f b s = absurd (omega (arith, eqb-true c start.top f, below_le desc b, strictly_lt desc s))
      pick false f b s = rw f refl

  module _ {a : Part} (n : NamedPart parent count R goals a) (c : ℕ) (on : a.path ≡ c) (w : ℕ)
      (small : w < 2 ^ 64) where
    -- a child with a goal of its own stands in its block
    alone_in : (handed : Bool) (j : Part) (h : ℕ) → Memᴰ j (kids_of parent count (word_reach R) a) → Has w h → j ≡ child_for parent c h
        → Memᴰ j (kid_parts parent count R goals start c handed w)
    alone_in handed j h m k e =
        let v = goals_of desc within few words begins (further a n m) in
        let d : Memᴰ h j.goals = subst (λ (z : Part). Memᴰ h z.goals) (sym e) (mathlib.Core.List.Memᴰ.head refl) in
        let s = kid_may_stand desc within few words begins n m in
        from_each (kid_block parent count R goals start handed w)
        (subst (λ (z : ℕ). Memᴰ j.path (members (child_paths parent count z))) on (kid_path n m))
        ((kid_block_lem c handed w small j.path j).1 (InBlock.one h
        ((has_common w (subtree parent count j.path) h).1
        (k, (subtree_iff desc j.path count s.small few h).1 (v.small h d, v.below h d)))
        (e ∙ ap (λ (z : ℕ). one_part z h) (sym (ap path_of e)))))

    -- what stands in a block with one goal is a child with a goal of its own
    alone_out : (k : ℕ) → (0 < k) × (k < count) × (parent k ≡ c) → (j : Part) (g : ℕ) → Has (common w (subtree parent count k)) g
        → j ≡ one_part k g → Has w g × (j ≡ child_for parent c g)
    alone_out k r j g h e =
        let s = (has_common w (subtree parent count k) g).0 h in
        let b = ((subtree_iff desc k count r.1 few g).0 s.1).1 in
        let u = subst (λ (z : ℕ). StrictlyBelow parent z k) r.2 (parent_strictly desc k r.0) in
        (s.0, e ∙ ap (λ (z : ℕ). one_part z g) (towards_unique desc u r.2 b))

  all_kids_iff : {c : ℕ} → Has (chain parent count R start) c → (j : Part)
      → Memᴰ j (kids_of parent count (word_reach R) (all_part c goals))
      ↔ Memᴰ j (kid_parts parent count R goals start c true (all_kids parent count R start c))
  all_kids_iff {c} h j = (λ m. into m (kids.0 m), out)
    where
      small : all_kids parent count R start c < 2 ^ 64
      small = all_kids_small parent count R start c begins.word.small

      n : NamedPart parent count R goals (all_part c goals)
      n = all_named desc within few words begins h

      kids : Memᴰ j (kids_of parent count (word_reach R) (all_part c goals))
          ↔ KidBy parent c goals (not (eqb c start.top)) (all_kids parent count R start c) j
      kids = kids_of_all desc within few words begins h j

      on_way_lem : not (eqb c start.top) ≡ true → Has (chain parent count R start) (towards parent c (meet_all parent goals))
      on_way_lem e = pick (eqb c start.top) refl
        where
          pick : (t : Bool) → eqb c start.top ≡ t → Has (chain parent count R start) (towards parent c (meet_all parent goals))
          pick true f = absurd (false≢true (rw f at e))
          pick false f =
              let r = (chain_iff begins desc few R c).0 h in
              let b = towards_below desc (record { below = r.1; other = eqb-false c start.top f }) in
              (chain_iff begins desc few R (towards parent c (meet_all parent goals))).1
              (r.0, subst (λ (z : ℕ). Below parent (towards parent c z) start.top) begins.top b)

      into : Memᴰ j (kids_of parent count (word_reach R) (all_part c goals))
          → KidBy parent c goals (not (eqb c start.top)) (all_kids parent count R start c) j
          → Memᴰ j (kid_parts parent count R goals start c true (all_kids parent count R start c))
      into m (all e p) =
          let q : j.path ≡ towards parent c (meet_all parent goals) = ap path_of p in
          let k : Has (chain parent count R start) j.path = subst (Has (chain parent count R start)) (sym q) (on_way_lem e) in
          from_each (kid_block parent count R goals start true (all_kids parent count R start c)) (kid_path n m)
          ((kid_block_lem c true (all_kids parent count R start c) small j.path j).1
          (InBlock.all (hasb_has (chain parent count R start) j.path k) (p ∙ ap (λ (z : ℕ). all_part z goals) (sym q))))
      into m (alone g k p) = alone_in n c refl (all_kids parent count R start c) small true j g m k p

      back : (k : ℕ) → (0 < k) × (k < count) × (parent k ≡ c)
          → InBlock goals (true && hasb (chain parent count R start) k) (common (all_kids parent count R start c) (subtree parent count k)) k j
          → KidBy parent c goals (not (eqb c start.top)) (all_kids parent count R start c) j
      back k r (InBlock.all t e) =
          let s = chain_child (hasb_true (chain parent count R start) k t) r.0 r.2 in
          all s.0 (e ∙ ap (λ (z : ℕ). all_part z goals) s.1)
      back k r (InBlock.one g q e) =
          let s = alone_out n c refl (all_kids parent count R start c) small k r j g q e in alone g s.0 s.1

      out : Memᴰ j (kid_parts parent count R goals start c true (all_kids parent count R start c))
          → Memᴰ j (kids_of parent count (word_reach R) (all_part c goals))
      out m =
          let r = each_from (kid_block parent count R goals start true (all_kids parent count R start c))
          (members (child_paths parent count c)) j m in
          kids.1 (back r.source ((child_mem parent count few c r.source).0 r.listed)
          ((kid_block_lem c true (all_kids parent count R start c) small r.source j).0 r.member))

  one_kids_iff : {c g : ℕ} → NamedPart parent count R goals (one_part c g) → (j : Part)
      → Memᴰ j (kids_of parent count (word_reach R) (one_part c g))
      ↔ Memᴰ j (kid_parts parent count R goals start c false (one_kids parent count R c g))
  one_kids_iff {c} {g} n j = (λ m. into m (kids.0 m), out)
    where
      small : one_kids parent count R c g < 2 ^ 64
      small = one_kids_small parent count R start c g

      kids : Memᴰ j (kids_of parent count (word_reach R) (one_part c g)) ↔ KidBy parent c (g ∷ []) false (one_kids parent count R c g) j
      kids = kids_of_one desc within few words begins n j

      into : Memᴰ j (kids_of parent count (word_reach R) (one_part c g)) → KidBy parent c (g ∷ []) false (one_kids parent count R c g) j
          → Memᴰ j (kid_parts parent count R goals start c false (one_kids parent count R c g))
      into m (all e p) = absurd (false≢true e)
      into m (alone x k p) = alone_in n c refl (one_kids parent count R c g) small false j x m k p

      back : (k : ℕ) → (0 < k) × (k < count) × (parent k ≡ c)
          → InBlock goals (false && hasb (chain parent count R start) k) (common (one_kids parent count R c g) (subtree parent count k)) k j
          → KidBy parent c (g ∷ []) false (one_kids parent count R c g) j
      back k r (InBlock.all t e) = absurd (false≢true t)
      back k r (InBlock.one x q e) =
          let s = alone_out n c refl (one_kids parent count R c g) small k r j x q e in alone x s.0 s.1

      out : Memᴰ j (kid_parts parent count R goals start c false (one_kids parent count R c g))
          → Memᴰ j (kids_of parent count (word_reach R) (one_part c g))
      out m =
          let r = each_from (kid_block parent count R goals start false (one_kids parent count R c g))
          (members (child_paths parent count c)) j m in
          kids.1 (back r.source ((child_mem parent count few c r.source).0 r.listed)
          ((kid_block_lem c false (one_kids parent count R c g) small r.source j).0 r.member))

  entries_match : (c : ℕ) → c < count
      → Matches (LaysDown (kids_of parent count (word_reach R)) (handed_parts parent count R goals start))
      (block_on goals (chain parent count R start) (goal_rows parent count R start) c)
      (entries_on parent count R start (chain parent count R start) (goal_rows parent count R start) (path_order parent count) c)
  unfolding entries_on block
  entries_match c l =
      matches_append
      (only_matches (hasb (chain parent count R start) c) (all_part c goals) _
      (λ t.
      let h = hasb_true (chain parent count R start) c t in
      lays_down c true (all_kids parent count R start c) (all_kids_small parent count R start c begins.word.small) (λ g k. of_all h k)
      (all_part c goals) refl (all_kids_iff h)))
      (matches_map (one_part c) _ (members (row parent count R start c))
      (λ g m.
      let h = (mem_members (row parent count R start c) g (row_word desc within few shallow words begins l)).0 m in
      lays_down c false (one_kids parent count R c g) (one_kids_small parent count R start c g) (λ x k. of_one g h k)
      (one_part c g) refl (one_kids_iff (row_named desc within few words begins l h))))

  -- the entries lay down the parts, one by one
  pub entries_lay : Matches (LaysDown (kids_of parent count (word_reach R)) (handed_parts parent count R goals start))
      (handed_parts parent count R goals start) (handed_entries parent count R start)
  unfolding handed_entries
  entries_lay = matches_each _ _ (path_order parent count) (λ c m. entries_match c (order_in_table parent count few c m))

  -- the computed document is the document that begins with part 0, written down
  pub handed_writes : WritesParts parent (kids_of parent count (word_reach R)) (part_zero goals) (handed_entries parent count R start)
  handed_writes = record {
    parts = (handed_parts parent count R goals start);
    begins = parts_begin desc within few shallow words begins;
    named = parts_named desc within few shallow words begins;
    every = λ a n. let r = parts_every desc within few shallow words begins a n in
        (r.0, record { part = a; number = r.1; same = same_part a });
    ordered = parts_ordered desc within few shallow words begins;
    entries = entries_lay;
  }
