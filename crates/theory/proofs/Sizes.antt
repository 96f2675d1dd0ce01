-- How large a document handed back can be: at most 449 parts, at most 64 children each, at most 65,536 bytes.
use Prim.Native.Nat.{ℕ, zero, suc, ◌*◌, ◌≤◌, ◌<◌}
use mathlib.Core.Path.{◌≡◌, refl, sym, ap, subst, ◌∙◌}
use mathlib.Core.Logic.{◌⊎◌, inl, inr}
use mathlib.Core.Bool.{Bool, true, false, ◌&&◌, false≢true}
use mathlib.Core.List.Memᴰ
use mathlib.Core.List.{
  List,
  [],
  ◌∷◌,
  ◌++◌,
  map,
  append_assoc,
  Memᴰ,
}
use native.Mathlib.Omega.{arith}
use lib.ListN.{length, length-append, length-map}
use Rattle.files.specs.Table.{Rule}
use Rattle.files.specs.Number.{bytes_of_all}
use Rattle.files.specs.Sets.{hasb, common, members}
use Rattle.files.proofs.FileSizes.{bytes_in, number_short, number_most, bytes_none, bytes_more, bytes_append}
use Rattle.files.proofs.SetBits.{hasb_true, has_common}
use Rattle.files.proofs.SetMembers.{members_ascending}
use Rattle.documents.specs.Paths.{Descending, depth_of}
use Rattle.documents.specs.PartList.{Entry, part_numbers, document_numbers}
use Rattle.documents.proofs.Paths.{below_root, depth_root, depth_child, depth_below}
use Rattle.theory.specs.Parts.{Part, RulesIn, part_zero}
use Rattle.theory.specs.Reachable.{subtree}
use Rattle.theory.specs.Order.{Sorted, Precedes}
use Rattle.theory.specs.Handed.{
  Start,
  ReachWords,
  each_of,
  only_if,
  one_kids,
  chain,
  all_kids,
  goal_rows,
  layer,
  layers_from,
  path_order,
  child_paths,
  place_of,
  number_of,
  kids_on,
  entry_on,
  entries_on,
  handed_entries,
  handed_numbers,
}
use Rattle.theory.proofs.Reachable.{subtree_iff}
use Rattle.theory.proofs.Sorted.{numbered_lt, each_from, map_from, matches_length, matches_partner, ascending_sorted}
use Rattle.theory.proofs.Order.{precedes_asym}
use Rattle.theory.proofs.HandedRows.{Begins, one_part, all_part, row}
use Rattle.theory.proofs.HandedNamed.{chain_iff, next_row}
use Rattle.theory.proofs.HandedOrder.{layer_mem, child_mem, order_in_table, block, in_block, block_path, block_on}
use Rattle.theory.proofs.HandedParts.{handed_parts, row_word, parts_named, parts_ordered, root_part}
use Rattle.theory.proofs.Handed.{entries_lay}
use Rattle.theory.proofs.HandedDisjoint.{blocks_few}

-- ---- the parts

-- a sorted list of which every member is the same has at most one
few_same : {A : Type 0} {Before : A → A → Type 0} (asym : (a b : A) → Before a b → Before b a → ⊥) (x : A) {l : List A} → Sorted Before l
    → ((a : A) → Memᴰ a l → a ≡ x) → length l ≤ 1
few_same asym x Sorted.none h = omega arith
few_same asym x (Sorted.next {a = a} {rest = []} k s) h = omega arith
few_same {Before = Before} asym x (Sorted.next {a = a} {rest = b ∷ l} k s) h =
    let e : b ≡ a = h b (Memᴰ.tail (Memᴰ.head refl)) ∙ sym (h a (Memᴰ.head refl)) in
    let p = subst (λ z. Before a z) e (k b (Memᴰ.head refl)) in
    absurd (asym a a p p)

sorted_left : {A : Type 0} {Before : A → A → Type 0} (l m : List A) → Sorted Before (l ++ m) → Sorted Before l
sorted_left [] m s = Sorted.none
sorted_left (a ∷ l) m (Sorted.next h s) = Sorted.next (λ b k. h b (Memᴰ.append_left m k)) (sorted_left l m s)

pub each_append : {A B : Type 0} (f : A → List B) (l m : List A) → each_of f (l ++ m) ≡ each_of f l ++ each_of f m
unfolding each_of
each_append f [] m = refl
each_append f (a ∷ l) m = ap (λ z. f a ++ z) (each_append f l m) ∙ sym (append_assoc (f a) (each_of f l) (each_of f m))

each_length : {A B C : Type 0} (f : A → List B) (g : A → List C) (l : List A) → ((a : A) → length (f a) ≡ length (g a))
    → length (each_of f l) ≡ length (each_of g l)
unfolding each_of
each_length f g [] h = refl
each_length f g (a ∷ l) h = omega (arith, length-append (f a) (each_of f l), length-append (g a) (each_of g l), h a, each_length f g l h)

-- numbers take at most two bytes each
pub numbers_bytes : (ns : List ℕ) → bytes_in ns ≤ 2 * length ns
numbers_bytes [] = omega (arith, bytes_none)
numbers_bytes (n ∷ ns) = omega (arith, bytes_more n ns, number_most n, numbers_bytes ns)

module _ {parent : ℕ → ℕ} {rules : List Rule} {count : ℕ} {R : ℕ → ℕ → ℕ} {goals : List ℕ} {start : Start} (desc : Descending parent)
    (within : RulesIn count rules) (few : count ≤ 64) (shallow : (x : ℕ) → x < count → depth_of parent x ≤ 8)
    (words : ReachWords parent rules count R) (begins : Begins parent count goals start) where
  -- the parts on path c
  abbrev on : ℕ → List Part
  on = block_on goals (chain parent count R start) (goal_rows parent count R start)

  deeper : (c : ℕ) → 1 < depth_of parent c → 0 < c
  deeper zero h = absurd (omega (arith, depth_root desc))
  deeper (suc c) h = omega arith

  layer_few : (depth : ℕ) → 1 < depth → length (each_of on (members (layer parent count depth))) ≤ 64
  layer_few depth h =
      blocks_few desc goals (hasb (chain parent count R start)) (row parent count R start) start.top depth
      (ascending_sorted (members_ascending (layer parent count depth)))
      (λ c m. let r = (layer_mem parent count few depth c).0 m in (deeper c (omega (arith, r.1)), r.1))
      (λ c m t. ((chain_iff begins desc few R c).0 (hasb_true (chain parent count R start) c t)).1)
      (λ c g m k.
      let r = (layer_mem parent count few depth c).0 m in
      ((next_row desc within few words begins c g (deeper c (omega (arith, r.1))) r.0).0 k).1)

  layers_few : (left depth : ℕ) → 1 < depth → length (each_of on (layers_from parent count left depth)) ≤ left * 64
  unfolding layers_from each_of
  layers_few zero depth h = omega arith
  layers_few (suc left) depth h =
      omega (
        arith,
        ap length (each_append on (members (layer parent count depth)) (layers_from parent count left (suc depth))),
        length-append (each_of on (members (layer parent count depth))) (each_of on (layers_from parent count left (suc depth))),
        layer_few depth h,
        layers_few left (suc depth) (omega arith),
      )

  parts_split : handed_parts parent count R goals start
      ≡ each_of on (members (layer parent count 1)) ++ each_of on (layers_from parent count 7 2)
  unfolding path_order layers_from
  parts_split = each_append on (members (layer parent count 1)) (layers_from parent count 7 2)

  first_few : length (each_of on (members (layer parent count 1))) ≤ 1
  first_few =
      few_same precedes_asym (part_zero goals)
      (sorted_left (each_of on (members (layer parent count 1))) (each_of on (layers_from parent count 7 2))
      (subst (Sorted (Precedes parent)) parts_split (parts_ordered desc within few shallow words begins)))
      (λ a m.
      let r = each_from on (members (layer parent count 1)) a m in
      let l = (layer_mem parent count few 1 r.source).0 r.listed in
      let b = (in_block goals (row parent count R start r.source) r.source
      (row_word desc within few shallow words begins l.0) (hasb (chain parent count R start) r.source) a).0 r.member in
      root_part desc within few shallow words begins
      (parts_named desc within few shallow words begins a
      (subst (λ (z : List Part). Memᴰ a z) (sym parts_split) (Memᴰ.append_left (each_of on (layers_from parent count 7 2)) m)))
      (block_path b ∙ shallowest r.source l.1))
    where
      shallowest : (c : ℕ) → depth_of parent c ≡ 1 → c ≡ 0
      shallowest zero e = refl
      shallowest (suc c) e =
          absurd (omega (
            arith,
            depth_child desc (suc c) (omega arith),
            depth_root desc,
            depth_below desc (below_root desc (parent (suc c))),
          ))

  -- a document handed back has at most 449 parts
  pub parts_few : length (handed_entries parent count R start) ≤ 449
  parts_few =
      omega (
        arith,
        matches_length (entries_lay desc within few shallow words begins),
        ap length parts_split,
        length-append (each_of on (members (layer parent count 1))) (each_of on (layers_from parent count 7 2)),
        first_few,
        layers_few 7 2 (omega arith),
      )

  -- ---- the children

  only_length : {A B : Type 0} (test : Bool) (a : A) (b : B) → length (only_if test a) ≡ length (only_if test b)
  unfolding only_if
  only_length true a b = refl
  only_length false a b = refl

  only_member : {A : Type 0} {a : A} (test : Bool) (b : A) → Memᴰ a (only_if test b) → a ≡ b
  unfolding only_if
  only_member true b m = Memᴰ.eq_of_singleton m
  only_member false b m = absurd (Memᴰ.not-nil m)

  kids_few : (c : ℕ) (handed : Bool) (w : ℕ)
      → length (entry_on parent count R start (chain parent count R start) (goal_rows parent count R start)
      (path_order parent count) c handed w).kids
      ≤ 64
  unfolding entry_on kids_on block
  kids_few c handed w =
      omega (
        arith,
        each_length
            (kids_on parent count R start (chain parent count R start) (goal_rows parent count R start) (path_order parent count) handed w)
            (λ k. block goals (handed && hasb (chain parent count R start) k) (common w (subtree parent count k)) k)
            (members (child_paths parent count c)) same,
        blocks_few desc goals (λ k. handed && hasb (chain parent count R start) k) (λ k. common w (subtree parent count k)) start.top
            (suc (depth_of parent c)) (ascending_sorted (members_ascending (child_paths parent count c)))
            (λ k m.
            let r = (child_mem parent count few c k).0 m in
            (r.0, depth_child desc k r.0 ∙ ap (λ (z : ℕ). suc (depth_of parent z)) r.2))
            (λ k m t. ((chain_iff begins desc few R k).0 (hasb_true (chain parent count R start) k (second handed k t))).1)
            (λ k g m h.
            ((subtree_iff desc k count ((child_mem parent count few c k).0 m).1 few g).0 ((has_common w (subtree parent count k) g).0 h).1).1),
      )
    where
      second : (b : Bool) (k : ℕ) → b && hasb (chain parent count R start) k ≡ true → hasb (chain parent count R start) k ≡ true
      second true k e = e
      second false k e = absurd (false≢true e)

      same : (k : ℕ)
          → length (kids_on parent count R start (chain parent count R start) (goal_rows parent count R start)
          (path_order parent count) handed w k)
          ≡ length (block goals (handed && hasb (chain parent count R start) k) (common w (subtree parent count k)) k)
      same k =
          let ns = map (number_of (chain parent count R start) (goal_rows parent count R start) (path_order parent count) k)
          (members (common w (subtree parent count k))) in
          let ps = map (one_part k) (members (common w (subtree parent count k))) in
          let b = handed && hasb (chain parent count R start) k in
          let place = place_of (chain parent count R start) (goal_rows parent count R start) (path_order parent count) k in
          omega (
            arith,
            length-append (only_if b place) ns,
            length-append (only_if b (all_part k goals)) ps,
            only_length b place (all_part k goals),
            length-map (members (common w (subtree parent count k)))
                (number_of (chain parent count R start) (goal_rows parent count R start) (path_order parent count) k),
            length-map (members (common w (subtree parent count k))) (one_part k),
          )

  -- an entry is on a path of the table and has at most 64 children
  record SmallEntry (e : Entry) : Type 0 where
    path : e.path < count
    kids : length e.kids ≤ 64

  entries_small : (e : Entry) → Memᴰ e (handed_entries parent count R start) → SmallEntry e
  unfolding handed_entries entries_on entry_on
  entries_small e m =
      let r = each_from _ (path_order parent count) e m in
      pick r.source (order_in_table parent count few r.source r.listed)
      (Memᴰ.append_cases (only_if (hasb (chain parent count R start) r.source) _) r.member)
    where
      made : ℕ → Bool → ℕ → Entry
      made = entry_on parent count R start (chain parent count R start) (goal_rows parent count R start) (path_order parent count)

      small : (c : ℕ) (handed : Bool) (w : ℕ) → c < count → e ≡ made c handed w → SmallEntry e
      small c handed w l p = subst SmallEntry (sym p) (record { path = l; kids = kids_few c handed w })

      pick : (c : ℕ) → c < count
          → Memᴰ e (only_if (hasb (chain parent count R start) c) (made c true (all_kids parent count R start c)))
          ⊎ Memᴰ e (map (λ g. made c false (one_kids parent count R c g)) (members (row parent count R start c)))
          → SmallEntry e
      pick c l (inl k) =
          small c true (all_kids parent count R start c) l (only_member (hasb (chain parent count R start) c) _ k)
      pick c l (inr k) =
          let r = map_from (λ g. made c false (one_kids parent count R c g)) (members (row parent count R start c)) e k in
          small c false (one_kids parent count R c r.0) l r.2

  -- ---- the bytes

  parts_bytes : (es : List Entry) → ((e : Entry) → Memᴰ e es → SmallEntry e) → bytes_in (part_numbers es) ≤ 130 * length es
  unfolding part_numbers
  parts_bytes [] h = omega (arith, bytes_none)
  parts_bytes (e ∷ es) h =
      let s = h e (Memᴰ.head refl) in
      omega (
        arith,
        s.path,
        s.kids,
        bytes_more e.path (length e.kids ∷ (e.kids ++ part_numbers es)),
        bytes_more (length e.kids) (e.kids ++ part_numbers es),
        bytes_append e.kids (part_numbers es),
        number_short e.path (omega (arith, s.path)),
        number_short (length e.kids) (omega (arith, s.kids)),
        numbers_bytes e.kids,
        parts_bytes es (λ x m. h x (Memᴰ.tail m)),
      )

  kid_numbers : (e : Entry) → Memᴰ e (handed_entries parent count R start) → (n : ℕ) → Memᴰ n e.kids → n < 449
  kid_numbers e m n k =
      let lay = entries_lay desc within few shallow words begins in
      let r = matches_partner lay m in
      omega (arith, numbered_lt (r.2.only n k).standing.number, matches_length lay, parts_few)

  part_numbers_lem : (es : List Entry) → ((e : Entry) → Memᴰ e es → SmallEntry e × ((n : ℕ) → Memᴰ n e.kids → n < 449))
      → (n : ℕ) → Memᴰ n (part_numbers es) → n ≤ 449
  unfolding part_numbers
  part_numbers_lem [] h n m = absurd (Memᴰ.not-nil m)
  part_numbers_lem (e ∷ es) h n (Memᴰ.head p) = omega (arith, (h e (Memᴰ.head refl)).0.path)
  part_numbers_lem (e ∷ es) h n (Memᴰ.tail (Memᴰ.head p)) = omega (arith, (h e (Memᴰ.head refl)).0.kids)
  part_numbers_lem (e ∷ es) h n (Memᴰ.tail (Memᴰ.tail m)) =
      pick (Memᴰ.append_cases e.kids m) (part_numbers_lem es (λ x k. h x (Memᴰ.tail k)) n)
    where
      pick : Memᴰ n e.kids ⊎ Memᴰ n (part_numbers es) → (Memᴰ n (part_numbers es) → n ≤ 449) → n ≤ 449
      pick (inl k) again = omega (arith, (h e (Memᴰ.head refl)).1 n k)
      pick (inr k) again = again k

  -- its numbers, the part count, paths, child counts and child numbers, are at most 449
  pub numbers_few : (n : ℕ) → Memᴰ n (handed_numbers parent count R start) → n ≤ 449
  unfolding handed_numbers document_numbers
  numbers_few n (Memᴰ.head p) = omega (arith, parts_few)
  numbers_few n (Memᴰ.tail m) =
      part_numbers_lem (handed_entries parent count R start) (λ e k. (entries_small e k, kid_numbers e k)) n m

  -- a document handed back has at most 65,536 bytes
  pub bytes_few : length (bytes_of_all (handed_numbers parent count R start)) ≤ 65536
  unfolding handed_numbers document_numbers bytes_in
  bytes_few =
      let es = handed_entries parent count R start in
      omega (arith, bytes_more (length es) (part_numbers es), number_most (length es), parts_bytes es entries_small, parts_few)
