-- On the sheet of a table the numbers that the code emits are those of the document handed back.
use Prim.Native.Nat.{ℕ, ◌+◌, ◌%◌, ◌^◌, ◌≤◌, ◌<◌}
use mathlib.Core.Path.{◌≡◌, refl, sym, ap, ap₂, ◌∙◌, subst}
use mathlib.Core.Logic.{◌⊎◌, inl, inr, ◌↔◌}
use mathlib.Core.Bool.{Bool, true, false, ◌&&◌}
use mathlib.Core.List.{List, [], ◌∷◌, ◌++◌, map, append_assoc, append-nil, Memᴰ}
use native.Mathlib.Omega.{arith}
use lib.Dec.{ltb, eqb, lit<}
use lib.ListN.{length, get_or, length-append, length-map}
use Rattle.files.specs.Number.{limit, bytes_of_all}
use Rattle.files.specs.Sets.{bit, Has, hasb, with_path, union, common, size, members}
use Rattle.files.specs.Table.{Rule}
use Rattle.files.specs.Writing.{Written, wrapped, put, Puts}
use Rattle.files.proofs.SetBits.{
  same_sets,
  hasb_true,
  hasb_false,
  hasb_absent,
  not_has,
  bit_absent,
  bit_cases,
  bit_of_zero,
  has_union,
  has_common,
  has_with,
  with_lt,
  common_lt,
}
use Rattle.files.proofs.SetMembers.{size_le, size_with, size_of_zero, size_members, mem_members, members_of_zero}
use Rattle.documents.specs.Paths.{Below, StrictlyBelow, Descending, same, up, towards, depth_of}
use Rattle.documents.specs.PartList.{Entry, part_numbers, document_numbers}
use Rattle.documents.specs.Parts.{further}
use Rattle.documents.proofs.Paths.{strictly_lt, strictly_trans, towards_strictly, towards_parent, towards_below, towards_unique, below_le}
use Rattle.theory.specs.Parts.{child_for}
use Rattle.theory.specs.Reachable.{Fits, reachable, subtree}
use Rattle.theory.specs.Handed.{Start, ReachWords, gather, each_of, only_if, one_kids, all_kids, path_order, child_paths, parts_on, place_of, number_of, kids_on, entry_on, entries_on, handed_entries, handed_numbers}
use Rattle.theory.proofs.HandedDocuments.{reachable_words}
use Rattle.theory.proofs.HandedKids.{alone}
use Rattle.theory.proofs.HandedNamed.{goals_of, kid_may_stand, all_named, kids_of_all, kids_of_one, row_named, top_small}
use Rattle.theory.proofs.HandedOrder.{order_in_table, child_mem}
use Rattle.theory.proofs.HandedRows.{Begins, one_part, all_part, row_small, one_kids_small, all_kids_small}
use Rattle.theory.proofs.HandedWords.{has_none, gather_iff}
use Rattle.theory.proofs.Least.{passing_small}
use Rattle.theory.proofs.Reachable.{subtree_iff}
use Rattle.theory.proofs.Sizes.{parts_few, numbers_few}
use Rattle.reachable.specs.Grow.{sheet_of}
use Rattle.reachable.proofs.Sheets.{sheet_paths, sheet_sets, sheet_count, sheet_small}
use Rattle.reachable.specs.Sheet.{row, above_at, below_at, child_at, slot_of}
use Rattle.handed.specs.Plan.{all_for, planned}
use Rattle.handed.specs.Emit.{first_in, number_in, one_number, kids_under, kid_paths, kid_count, kids_on_path, part_in, one_part_in, whole_part_in, parts_numbers}
use Rattle.handed.specs.Writer.{start_of, document_in}
use Rattle.handed.proofs.SetSums.{total, total_same, total_plus, total_length, total_bits, total_sizes, each_common}
use Rattle.handed.proofs.SheetPlan.{Told, below_is, order_is, whole, rows, top_in, one_is, all_is, parts_in, Numbered, plan_numbered}

-- ---- lists

each_same : (f g : ℕ → List ℕ) (l : List ℕ) → ((a : ℕ) → Memᴰ a l → f a ≡ g a) → each_of f l ≡ each_of g l
unfolding each_of
each_same f g [] h = refl
each_same f g (a ∷ l) h = ap₂ (λ (x y : List ℕ). x ++ y) (h a (Memᴰ.head refl)) (each_same f g l (λ b m. h b (Memᴰ.tail m)))

part_append : (es fs : List Entry) → part_numbers (es ++ fs) ≡ part_numbers es ++ part_numbers fs
unfolding part_numbers
part_append [] fs = refl
part_append (e ∷ es) fs =
    ap (λ (l : List ℕ). e.path ∷ length e.kids ∷ l)
    (ap (λ (l : List ℕ). e.kids ++ l) (part_append es fs) ∙ sym (append_assoc e.kids (part_numbers es) (part_numbers fs)))

only_bit : {A : Type 0} (a : A) (w k : ℕ) (b : Bool) → hasb w k ≡ b → length (only_if b a) ≡ bit w k
unfolding only_if
only_bit a w k true e = sym (hasb_true w k e).one
only_bit a w k false e = sym (hasb_false w k e)

same_bit : (v w i j : ℕ) → Has v i ↔ Has w j → bit v i ≡ bit w j
same_bit v w i j h = pick (bit_cases v i)
  where
    pick : Has v i ⊎ (bit v i ≡ 0) → bit v i ≡ bit w j
    pick (inl m) = m.one ∙ sym (h.0 m).one
    pick (inr e) = e ∙ sym (bit_absent w j (λ m. not_has e (h.1 m)))

wrapped_same : (ns : List ℕ) → ((n : ℕ) → Memᴰ n ns → n ≤ 449) → wrapped ns ≡ ns
unfolding wrapped
wrapped_same [] h = refl
wrapped_same (n ∷ ns) h =
    let low : n ≤ 449 = h n (Memᴰ.head refl) in
    let e : n % limit ≡ n = omega arith in
    ap₂ (λ (x : ℕ) (l : List ℕ). x ∷ l) e (wrapped_same ns (λ x m. h x (Memᴰ.tail m)))

module _ {parent : ℕ → ℕ} {rules : List Rule} {count : ℕ} {sheet : List ℕ} (told : Told parent rules count sheet) {list : List ℕ} (goals top : ℕ)
    (begins : Begins parent count list (start_of goals top)) where
  desc : Descending parent
  desc = told.fits.descending

  few : count ≤ 64
  few = told.fits.few

  abbrev R : ℕ → ℕ → ℕ
  R = reachable parent rules count

  words : ReachWords parent rules count R
  words = reachable_words told.fits

  abbrev start : Start
  start = start_of goals top

  abbrev all : ℕ
  all = whole told goals top begins

  abbrev line : List ℕ
  line = rows told goals top begins

  abbrev order : List ℕ
  order = path_order parent count

  -- ---- how many parts

  entries_count : (c : ℕ) → length (entries_on parent count R start all line order c) ≡ parts_on all line c
  unfolding entries_on parts_on
  entries_count c =
      let w = entry_on parent count R start all line order c true (all_kids parent count R start c) in
      let one : ℕ → Entry = λ g. entry_on parent count R start all line order c false (one_kids parent count R c g) in
      omega (
        arith,
        length-append (only_if (hasb all c) w) (map one (members (get_or line c 0))),
        length-map (members (get_or line c 0)) one,
        size_members (get_or line c 0),
        only_bit w all c (hasb all c) refl,
      )

  all_count : (l : List ℕ) → length (each_of (entries_on parent count R start all line order) l) ≡ parts_in told goals top begins l
  unfolding each_of parts_in
  all_count [] = refl
  all_count (c ∷ l) =
      omega (
        arith,
        length-append (entries_on parent count R start all line order c) (each_of (entries_on parent count R start all line order) l),
        entries_count c,
        all_count l,
      )

  -- ---- a part's children

  child_small : (c : ℕ) → child_paths parent count c < 2 ^ 64
  unfolding child_paths
  child_small c = passing_small (λ x. ltb 0 x && eqb (parent x) c) count

  children_are : (c : ℕ) → c < count → row child_at sheet c ≡ child_paths parent count c
  children_are c h =
      let small = child_small c in
      same_sets (row child_at sheet c) (child_paths parent count c) (told.small (child_at + c)) small
      (λ k l. (
        λ m. (mem_members (child_paths parent count c) k small).0 ((child_mem parent count few c k).1 ((told.paths.child c k h).0 m)),
        λ m. (told.paths.child c k h).1 ((child_mem parent count few c k).0 ((mem_members (child_paths parent count c) k small).1 m)),
      ))

  module _ (c w : ℕ) (hc : c < count) (small : w < 2 ^ 64) (inner : (x : ℕ) → Has w x → StrictlyBelow parent c x × (x < count)) where
    -- a goal is below exactly one child path
    below_one : (x : ℕ) → Has w x → common (row above_at sheet x) (row child_at sheet c) ≡ with_path 0 (towards parent c x)
    below_one x m =
        same_sets (common (row above_at sheet x) (row child_at sheet c)) (with_path 0 k) (common_lt (row above_at sheet x) (row child_at sheet c) (told.small (above_at + x)))
        (with_lt 0 k (lit< tt)) (λ i l. (λ h. fore i ((has_common (row above_at sheet x) (row child_at sheet c) i).0 h), λ h. back i ((has_with 0 k i low).0 h)))
      where
        k : ℕ
        k = towards parent c x

        s : StrictlyBelow parent c x
        s = (inner x m).0

        inside : k < count
        inside = omega (arith, below_le desc (towards_below desc s), (inner x m).1)

        low : k < 64
        low = omega (arith, inside, few)

        fore : (i : ℕ) → Has (row above_at sheet x) i × Has (row child_at sheet c) i → Has (with_path 0 k) i
        fore i h =
            let b = (told.paths.above x i (inner x m).1).0 h.0 in
            let t = (told.paths.child c i hc).0 h.1 in
            let less = desc.smaller i t.0 in
            let under : StrictlyBelow parent c i = record { below = up (same (sym t.2)); other = λ e. omega (arith, e, less, t.2) } in
            (has_with 0 k i low).1 (inl (towards_unique desc under t.2 b))

        back : (i : ℕ) → (i ≡ k) ⊎ Has 0 i → Has (common (row above_at sheet x) (row child_at sheet c)) i
        back i (inl e) =
            let lt = strictly_lt desc (towards_strictly desc s) in
            subst (λ (z : ℕ). Has (common (row above_at sheet x) (row child_at sheet c)) z) (sym e)
            ((has_common (row above_at sheet x) (row child_at sheet c) k).1
            ((told.paths.above x k (inner x m).1).1 (towards_below desc s), (told.paths.child c k hc).1 (omega (arith, lt), inside, towards_parent desc s)))
        back i (inr h) = absurd (has_none h)

    child_in : (k : ℕ) → Memᴰ k (members (child_paths parent count c)) → k < count
    child_in k m = ((child_mem parent count few c k).0 m).1

    once : (x : ℕ) → Memᴰ x (members w) → total (λ k. bit (subtree parent count k) x) (members (child_paths parent count c)) ≡ 1
    once x m =
        let h = (mem_members w x small).0 m in
        total_same (λ k. bit (subtree parent count k) x) (bit (row above_at sheet x)) (members (child_paths parent count c))
        (λ k n.
        let r = subtree_iff desc k count (child_in k n) few x in
        let a = told.paths.above x k (inner x h).1 in
        same_bit (subtree parent count k) (row above_at sheet x) x k (λ y. a.1 (r.0 y).1, λ y. r.1 ((inner x h).1, a.0 y)))
        ∙ total_bits (row above_at sheet x) (child_paths parent count c)
        ∙ ap (λ (z : ℕ). size (common (row above_at sheet x) z)) (sym (children_are c hc))
        ∙ ap size (below_one x h)
        ∙ size_with 0 (towards parent c x) (omega (arith, below_le desc (towards_below desc (inner x h).0), (inner x h).1, few)) (bit_of_zero (towards parent c x))
        ∙ omega (arith, size_of_zero)

    module _ (more : ℕ) (handed : Bool) (test : (k : ℕ) → hasb more k ≡ (handed && hasb all k)) where
      kid_length : kid_count sheet c more w ≡ length (each_of (kids_on parent count R start all line order handed w) (members (child_paths parent count c)))
      unfolding kid_count kids_on
      kid_length =
          let l = members (child_paths parent count c) in
          let f = kids_on parent count R start all line order handed w in
          sym (total_length f l
          ∙ total_same (λ k. length (f k)) (λ k. bit more k + size (common w (subtree parent count k))) l (λ k m. one_length k)
          ∙ total_plus (bit more) (λ k. size (common w (subtree parent count k))) l
          ∙ ap₂ ◌+◌ (total_bits more (child_paths parent count c) ∙ ap (λ (z : ℕ). size (common more z)) (sym (children_are c hc)))
          (total_sizes (subtree parent count) l w once))
        where
          one_length : (k : ℕ) → length (kids_on parent count R start all line order handed w k) ≡ bit more k + size (common w (subtree parent count k))
          one_length k =
              let ms = members (common w (subtree parent count k)) in
              omega (
                arith,
                length-append (only_if (handed && hasb all k) (place_of all line order k)) (map (number_of all line order k) ms),
                only_bit (place_of all line order k) more k (handed && hasb all k) (test k),
                length-map ms (number_of all line order k),
                size_members (common w (subtree parent count k)),
              )

      module _ (plan : List ℕ) (parts : ℕ) (is : Numbered told goals top begins plan parts) (short : parts ≤ 449) where
        first_is : (k : ℕ) → k < count → first_in plan k ≡ place_of all line order k
        first_is k h = omega (arith, is.first k h, is.low k, short)

        ones_same : (k : ℕ) → k < count → (l : List ℕ) → each_of (one_number plan k) l ≡ map (number_of all line order k) l
        unfolding each_of one_number number_in number_of
        ones_same k h [] = refl
        ones_same k h (g ∷ l) =
            ap₂ (λ (n : ℕ) (r : List ℕ). n ∷ r) (rw (first_is k h, is.planned.whole_is, is.planned.rows_are k h)) (ones_same k h l)

        on_same : (k : ℕ) → k < count → kids_on_path sheet plan more w k ≡ kids_on parent count R start all line order handed w k
        unfolding kids_on_path kids_under kids_on
        on_same k h =
            rw (test k, below_is told k h)
            (ap₂ (λ (x y : List ℕ). x ++ y) (ap (only_if (handed && hasb all k)) (first_is k h)) (ones_same k h (members (common w (subtree parent count k)))))

        none_under : (k : ℕ) → Has (row child_at sheet c) k → bit (union more (gather (λ g. row above_at sheet g) 64 w 0)) k ≡ 0
            → kids_on_path sheet plan more w k ≡ []
        unfolding kids_on_path kids_under only_if each_of
        none_under k m e =
            rw (out, empty, members_of_zero)
          where
            far : Has (union more (gather (λ g. row above_at sheet g) 64 w 0)) k → ⊥
            far h = not_has e h

            out : hasb more k ≡ false
            out = hasb_absent more k (bit_absent more k (λ h. far ((has_union more (gather (λ g. row above_at sheet g) 64 w 0) k).1 (inl h))))

            inside : k < count
            inside = ((told.paths.child c k hc).0 m).1

            empty : common w (row below_at sheet k) ≡ 0
            empty =
                same_sets (common w (row below_at sheet k)) 0 (common_lt w (row below_at sheet k) small) (lit< tt)
                (λ g l. (
                  λ h.
                      let b = (has_common w (row below_at sheet k) g).0 h in
                      let r = (told.paths.below k g inside).0 b.1 in
                      absurd (far ((has_union more (gather (λ x. row above_at sheet x) 64 w 0) k).1
                      (inr ((gather_iff (λ x. row above_at sheet x) 64 w 0 k small (size_le w)).1
                      (inr (record { source = g; member = b.0; has = (told.paths.above g k r.0).1 r.1 })))))),
                  λ h. absurd (has_none h),
                ))

        kids_are : each_of (kids_on_path sheet plan more w) (members (kid_paths sheet c more w))
            ≡ each_of (kids_on parent count R start all line order handed w) (members (child_paths parent count c))
        unfolding kid_paths
        kids_are =
            each_common (union more (gather (λ g. row above_at sheet g) 64 w 0)) (row child_at sheet c) (kids_on_path sheet plan more w) none_under
            ∙ ap (λ (s : ℕ). each_of (kids_on_path sheet plan more w) (members s)) (children_are c hc)
            ∙ each_same (kids_on_path sheet plan more w) (kids_on parent count R start all line order handed w) (members (child_paths parent count c))
            (λ k m. on_same k (child_in k m))

        part_is : (rest : List Entry)
            → part_in sheet plan c more w ++ part_numbers rest ≡ part_numbers (entry_on parent count R start all line order c handed w ∷ rest)
        unfolding part_in part_numbers entry_on
        part_is rest = ap₂ (λ (n : ℕ) (l : List ℕ). c ∷ n ∷ (l ++ part_numbers rest)) kid_length kids_are

  -- ---- the parts

  -- a child's goal is strictly below
  kid_inner : (c h : ℕ) → (0 < towards parent c h) → (parent (towards parent c h) ≡ c) → Below parent (towards parent c h) h → StrictlyBelow parent c h
  kid_inner c h inner p b =
      let less = desc.smaller (towards parent c h) inner in
      strictly_trans desc (record { below = up (same (sym p)); other = λ e. omega (arith, e, less, p) }) b

  one_inner : (c g : ℕ) → c < count → Has (get_or line c 0) g → (x : ℕ) → Has (one_kids parent count R c g) x → StrictlyBelow parent c x × (x < count)
  one_inner c g hc m x h =
      let n = row_named desc told.fits.rules_in few words begins hc m in
      let k = (kids_of_one desc told.fits.rules_in few words begins n (child_for parent c x)).1 (alone x h refl) in
      let s = kid_may_stand desc told.fits.rules_in few words begins n k in
      let v = goals_of desc told.fits.rules_in few words begins (further (one_part c g) n k) in
      (kid_inner c x s.inner s.parent_is (v.below x (Memᴰ.head refl)), v.small x (Memᴰ.head refl))

  all_inner : (c : ℕ) → Has all c → (x : ℕ) → Has (all_kids parent count R start c) x → StrictlyBelow parent c x × (x < count)
  all_inner c m x h =
      let n = all_named desc told.fits.rules_in few words begins m in
      let k = (kids_of_all desc told.fits.rules_in few words begins m (child_for parent c x)).1 (alone x h refl) in
      let s = kid_may_stand desc told.fits.rules_in few words begins n k in
      let v = goals_of desc told.fits.rules_in few words begins (further (all_part c list) n k) in
      (kid_inner c x s.inner s.parent_is (v.below x (Memᴰ.head refl)), v.small x (Memᴰ.head refl))

  module _ (plan : List ℕ) (parts : ℕ) (is : Numbered told goals top begins plan parts) (short : parts ≤ 449) where
    module _ (c : ℕ) (hc : c < count) where
      one_goal : (g : ℕ) → Has (get_or line c 0) g → Below parent c g × (g < count)
      one_goal g m =
          let v = goals_of desc told.fits.rules_in few words begins (row_named desc told.fits.rules_in few words begins hc m) in
          (v.below g (Memᴰ.head refl), v.small g (Memᴰ.head refl))

      ones_are : (l : List ℕ) → ((g : ℕ) → Memᴰ g l → Has (get_or line c 0) g) → each_of (one_part_in sheet plan (slot_of sheet c) c) l
          ≡ part_numbers (map (λ g. entry_on parent count R start all line order c false (one_kids parent count R c g)) l)
      unfolding each_of one_part_in part_numbers
      ones_are [] h = refl
      ones_are (g ∷ l) h =
          let m = h g (Memᴰ.head refl) in
          let b = one_goal g m in
          ap₂ (λ (x : ℕ) (r : List ℕ). part_in sheet plan c 0 x ++ r) (one_is told goals top begins c g hc b.0 b.1)
          (ones_are l (λ x k. h x (Memᴰ.tail k)))
          ∙ part_is c (one_kids parent count R c g) hc (one_kids_small parent count R start c g) (one_inner c g hc m) 0 false
          (λ k. hasb_absent 0 k (bit_of_zero k)) plan parts is short
          (map (λ g. entry_on parent count R start all line order c false (one_kids parent count R c g)) l)

      whole_is : (b : Bool) → hasb all c ≡ b → whole_part_in sheet plan c
          ≡ part_numbers (only_if b (entry_on parent count R start all line order c true (all_kids parent count R start c)))
      unfolding whole_part_in only_if part_numbers all_for
      whole_is true e =
          let m = hasb_true all c e in
          let t : top % 64 ≡ top = omega (arith, top_in told goals top begins, few) in
          rw (whole_part_in, is.planned.whole_is, e, is.planned.whole_is, is.planned.goals_are, is.planned.top_is, t, all_is told goals top begins c m)
          (sym (append-nil (part_in sheet plan c all (all_kids parent count R start c)))
          ∙ part_is c (all_kids parent count R start c) hc (all_kids_small parent count R start c begins.word.small) (all_inner c m) all true
          (λ k. refl) plan parts is short [])
      whole_is false e = rw (whole_part_in, is.planned.whole_is, e)

      path_is : parts_numbers sheet plan c ≡ part_numbers (entries_on parent count R start all line order c)
      unfolding parts_numbers entries_on
      path_is =
          ap₂ (λ (x y : List ℕ). x ++ y) (whole_is (hasb all c) refl)
          (ap (λ (w : ℕ). each_of (one_part_in sheet plan (slot_of sheet c) c) (members w)) (is.planned.rows_are c hc)
          ∙ ones_are (members (get_or line c 0))
          (λ g m. (mem_members (get_or line c 0) g (row_small parent count R start desc begins.word.small c hc)).0 m))
          ∙ sym (part_append (only_if (hasb all c) _) _)

    all_are : (l : List ℕ) → ((c : ℕ) → Memᴰ c l → c < count)
        → each_of (parts_numbers sheet plan) l ≡ part_numbers (each_of (entries_on parent count R start all line order) l)
    unfolding each_of part_numbers
    all_are [] inside = refl
    all_are (c ∷ l) inside =
        ap₂ (λ (x y : List ℕ). x ++ y) (path_is c (inside c (Memᴰ.head refl))) (all_are l (λ d m. inside d (Memᴰ.tail m)))
        ∙ sym (part_append (entries_on parent count R start all line order c) (each_of (entries_on parent count R start all line order) l))

  -- ---- the document

  numbers_are : document_in sheet goals top ≡ handed_numbers parent count R start
  unfolding document_in handed_numbers document_numbers handed_entries
  numbers_are =
      let is = plan_numbered told goals top begins in
      let parts : (planned sheet goals top).parts ≡ length (handed_entries parent count R start) = is.all ∙ sym (all_count order) in
      let short : (planned sheet goals top).parts ≤ 449 = omega (arith, parts, parts_few desc told.fits.rules_in few told.shallow words begins) in
      ap₂ (λ (x : ℕ) (y : List ℕ). x ∷ y) parts
      (ap (each_of (parts_numbers sheet (planned sheet goals top).plan)) (order_is told (omega (arith, top_in told goals top begins)))
      ∙ all_are (planned sheet goals top).plan (planned sheet goals top).parts is short order (order_in_table parent count few))

  wrapped_are : wrapped (document_in sheet goals top) ≡ handed_numbers parent count R start
  wrapped_are =
      ap wrapped numbers_are
      ∙ wrapped_same (handed_numbers parent count R start) (numbers_few desc told.fits.rules_in few told.shallow words begins)

-- what is put from the sheet of a table is the document handed back
pub document_written : {parent : ℕ → ℕ} {rules : List Rule} {count : ℕ} → Fits parent rules count → ((x : ℕ) → x < count → depth_of parent x ≤ 8)
    → {list : List ℕ} (goals top : ℕ) → Begins parent count list (start_of goals top) → (sheet out after : List ℕ) (answer : Written)
    → sheet ≡ sheet_of parent rules count → Puts (put (bytes_of_all (wrapped (document_in sheet goals top))) out) answer after
    → Puts (put (bytes_of_all (handed_numbers parent count (reachable parent rules count) (start_of goals top))) out) answer after
document_written {parent} {rules} {count} fits shallow goals top begins sheet out after answer e h =
    subst (λ (z : List ℕ). Puts (put (bytes_of_all z) out) answer after)
    (ap (λ (z : List ℕ). wrapped (document_in z goals top)) e ∙ wrapped_are told goals top begins) h
  where
    some : 0 < count
    some = omega (arith, top_small begins fits.descending fits.few (reachable parent rules count))

    told : Told parent rules count (sheet_of parent rules count)
    told = record {
      fits = fits;
      shallow = shallow;
      paths = sheet_paths fits some shallow;
      sets = sheet_sets fits some shallow;
      many = sheet_count fits some shallow;
      small = sheet_small fits some shallow;
    }
