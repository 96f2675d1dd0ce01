-- The parts of the computed document: all that part 0 names, in the order of parts, part 0 first.
use Prim.Native.Nat.{ℕ, ◌^◌, ◌≤◌, ◌<◌}
use mathlib.Core.Path.{◌≡◌, refl, sym, subst, ◌∙◌}
use mathlib.Core.Bool.{true, true≢false}
use mathlib.Core.List.Memᴰ
use mathlib.Core.List.{List, Memᴰ}
use native.Mathlib.Decide.{ℕ_discrete}
use native.Mathlib.Omega.{arith}
use Rattle.files.specs.Table.{Rule}
use Rattle.files.specs.Sets.{Has, hasb}
use Rattle.files.proofs.SetBits.{hasb_true}
use Rattle.documents.specs.Paths.{Descending, depth_of}
use Rattle.documents.specs.Parts.{given, further}
use Rattle.documents.proofs.Paths.{below_root, depth_below}
use Rattle.theory.specs.Parts.{Part, RulesIn, part_zero}
use Rattle.theory.specs.Order.{NumberedIn, Sorted, Several, Precedes, by_depth, by_path, by_several, by_goal}
use Rattle.theory.specs.Handed.{Start, ReachWords, each_of, severalb, chain, goal_rows, path_order, place_of, number_of}
use Rattle.theory.proofs.HandedRows.{Begins, row, row_small}
use Rattle.theory.proofs.HandedNamed.{
  Found,
  many,
  one,
  HowMany,
  several,
  unique,
  how_many,
  chain_iff,
  NamedPart,
  kid_may_stand,
  chain_in_table,
  all_named,
  row_named,
  named_found,
}
use Rattle.theory.proofs.HandedOrder.{
  order_sorted,
  order_mem,
  order_in_table,
  InBlock,
  in_block,
  block_sorted,
  block_path,
  blocks_apart,
  block_on,
  number_all,
  number_one,
}
use Rattle.theory.proofs.Order.{precedes_asym}
use Rattle.theory.proofs.Sorted.{numbered_member, sorted_before, each_from, sorted_each}

-- where a list has a member it has a first one
first_of : {A : Type 0} {l : List A} {n : ℕ} {a : A} → NumberedIn l n a → (b : A) × NumberedIn l 0 b
first_of (NumberedIn.first {a = a}) = (a, NumberedIn.first)
first_of (NumberedIn.later {before = b} m) = (b, NumberedIn.first)

-- the parts of a document in their order
abbrev pub handed_parts : (parent : ℕ → ℕ) (count : ℕ) (R : ℕ → ℕ → ℕ) (goals : List ℕ) (start : Start) → List Part
handed_parts parent count R goals start =
    each_of (block_on goals (chain parent count R start) (goal_rows parent count R start)) (path_order parent count)

module _ {parent : ℕ → ℕ} {rules : List Rule} {count : ℕ} {R : ℕ → ℕ → ℕ} {goals : List ℕ} {start : Start} (desc : Descending parent)
    (within : RulesIn count rules) (few : count ≤ 64) (shallow : (x : ℕ) → x < count → depth_of parent x ≤ 8)
    (words : ReachWords parent rules count R) (begins : Begins parent count goals start) where
  pub in_order : {c : ℕ} → c < count → Memᴰ c (path_order parent count)
  in_order {c} l = (order_mem parent count few desc c (shallow c l)).1 l

  pub row_word : {c : ℕ} → c < count → row parent count R start c < 2 ^ 64
  row_word {c} l = row_small parent count R start desc begins.word.small c l

  pub parts_named : (a : Part) → Memᴰ a (handed_parts parent count R goals start) → NamedPart parent count R goals a
  parts_named a m =
      let r = each_from (block_on goals (chain parent count R start) (goal_rows parent count R start)) (path_order parent count) a m in
      let l = order_in_table parent count few r.source r.listed in
      pick r.source l
      ((in_block goals (row parent count R start r.source) r.source (row_word l) (hasb (chain parent count R start) r.source) a).0
      r.member)
    where
      pick : (c : ℕ) → c < count → InBlock goals (hasb (chain parent count R start) c) (row parent count R start c) c a
          → NamedPart parent count R goals a
      pick c l (InBlock.all t e) =
          subst (NamedPart parent count R goals) (sym e)
          (all_named desc within few words begins (hasb_true (chain parent count R start) c t))
      pick c l (InBlock.one g h e) =
          subst (NamedPart parent count R goals) (sym e) (row_named desc within few words begins l h)

  pub parts_every : (a : Part) → NamedPart parent count R goals a → (n : ℕ) × NumberedIn (handed_parts parent count R goals start) n a
  parts_every a n = pick (named_found desc within few words begins n)
    where
      order : List ℕ
      order = path_order parent count

      ch : ℕ
      ch = chain parent count R start

      rs : List ℕ
      rs = goal_rows parent count R start

      pick : Found parent count R goals start a → (n : ℕ) × NumberedIn (handed_parts parent count R goals start) n a
      pick (many c h e) = (
        place_of ch rs order c,
        subst (λ (z : Part). NumberedIn (handed_parts parent count R goals start) (place_of ch rs order c) z) (sym e)
            (number_all goals ch rs order c (in_order (chain_in_table desc within few words begins h)) h),
      )
      pick (one c g l h e) = (
        number_of ch rs order c g,
        subst (λ (z : Part). NumberedIn (handed_parts parent count R goals start) (number_of ch rs order c g) z) (sym e)
            (number_one goals ch rs order c g (row_word l) (in_order l) h),
      )

  -- a path of the chain: the goals are several
  pub chain_several : {c : ℕ} → Has (chain parent count R start) c → Several goals
  chain_several {c} h = pick (how_many begins) ((chain_iff begins desc few R c).0 h).0
    where
      pick : HowMany goals start.goals → severalb start.goals ≡ true → Several goals
      pick (several e s) t = s
      pick (unique e g s) t = absurd (true≢false (sym t ∙ e))

  pub parts_ordered : Sorted (Precedes parent) (handed_parts parent count R goals start)
  parts_ordered =
      sorted_each (block_on goals (chain parent count R start) (goal_rows parent count R start)) (order_sorted parent count few)
      (λ c m.
      block_sorted goals (row parent count R start c) c (row_word (order_in_table parent count few c m))
      (hasb (chain parent count R start) c) (λ t. chain_several (hasb_true (chain parent count R start) c t)))
      (λ c d x y e p q m n. blocks_apart e (path_of_lem c p x m) (path_of_lem d q y n))
    where
      path_of_lem : (c : ℕ) → Memᴰ c (path_order parent count) → (x : Part)
          → Memᴰ x (block_on goals (chain parent count R start) (goal_rows parent count R start) c) → x.path ≡ c
      path_of_lem c p x m =
          block_path ((in_block goals (row parent count R start c) c (row_word (order_in_table parent count few c p))
          (hasb (chain parent count R start) c) x).0 m)

  -- part 0 alone is on the root
  pub root_part : {a : Part} → NamedPart parent count R goals a → a.path ≡ 0 → a ≡ part_zero goals
  root_part (given m) e = Memᴰ.eq_of_singleton m
  root_part (further b n m) e = absurd (omega (arith, (kid_may_stand desc within few words begins n m).inner))

  pub parts_begin : NumberedIn (handed_parts parent count R goals start) 0 (part_zero goals)
  parts_begin = pick r.0 r.1 (ℕ_discrete r.0 0)
    where
      r : (n : ℕ) × NumberedIn (handed_parts parent count R goals start) n (part_zero goals)
      r = parts_every (part_zero goals) (given (Memᴰ.head refl))

      never : (a : Part) → NumberedIn (handed_parts parent count R goals start) 0 a → a.path ≡ 0 → Precedes parent a (part_zero goals) → ⊥
      never a m e p =
          let f = root_part (parts_named a (numbered_member m)) e in
          let q = subst (λ (z : Part). Precedes parent z (part_zero goals)) f p in
          precedes_asym (part_zero goals) (part_zero goals) q q

      before : (a : Part) → NumberedIn (handed_parts parent count R goals start) 0 a → Precedes parent a (part_zero goals) → ⊥
      before a m (by_depth h) = omega (arith, depth_below desc (below_root desc a.path))
      before a m (by_path e l) = omega arith
      before a m (by_several e s g o) = never a m e (by_several e s g o)
      before a m (by_goal e g h o u l) = never a m e (by_goal e g h o u l)

      pick : (n : ℕ) → NumberedIn (handed_parts parent count R goals start) n (part_zero goals) → Dec (n ≡ 0)
          → NumberedIn (handed_parts parent count R goals start) 0 (part_zero goals)
      pick n m (yes e) = subst (λ (z : ℕ). NumberedIn (handed_parts parent count R goals start) z (part_zero goals)) e m
      pick n m (no e) = let b = first_of m in absurd (before b.0 b.1 (sorted_before parts_ordered b.1 m (omega arith)))
