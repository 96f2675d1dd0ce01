-- The paths in the order of the parts, and a part's number: a count of what stands before it.
use Prim.Native.Nat.{ℕ, zero, suc, ◌+◌, ◌^◌, ◌≤◌, ◌<◌}
use mathlib.Core.Path.{◌≡◌, refl, sym, ap, subst, ◌∙◌}
use mathlib.Core.Logic.{◌⊎◌, inl, inr, ◌↔◌}
use mathlib.Core.Bool.{Bool, true, false, ◌&&◌, false≢true}
use mathlib.Core.List.Memᴰ
use mathlib.Core.List.{
  List,
  [],
  ◌∷◌,
  ◌++◌,
  map,
  Memᴰ,
}
use native.Mathlib.Nat.{zero-add}
use native.Mathlib.Decide.{ℕ_discrete}
use native.Mathlib.Omega.{arith}
use lib.Dec.{T, eqb, ltb, ltb→lt, lt→ltb, eqb→eq, eqb_refl}
use lib.Ieee.Fits.{and_i, and_l, and_r}
use lib.ListN.{length, get_or, length-append, length-map}
use borrow.Author.Tests.{eqb-true, eqb-false}
use Rattle.files.specs.Sets.{bit, Has, hasb, size_below, members_from, members}
use Rattle.files.proofs.SetBits.{bit_cases, hasb_has, hasb_absent, has_under}
use Rattle.files.proofs.SetMembers.{
  size_below_zero,
  size_below_suc,
  size_below_mono,
  size_members,
  mem_members,
  members_ascending,
  from_has,
  from_absent,
}
use Rattle.documents.specs.Paths.{Descending, depth_of}
use Rattle.documents.proofs.Paths.{below_root, depth_root, depth_below}
use Rattle.theory.specs.Parts.{Part}
use Rattle.theory.specs.Order.{NumberedIn, Sorted, Several, Only, Precedes, by_depth, by_path, by_several, by_goal}
use Rattle.theory.specs.Handed.{each_of, only_if, layer, layers_from, path_order, child_paths, parts_on, place_of, number_of}
use Rattle.theory.proofs.Least.{passing_iff, passing_small}
use Rattle.theory.proofs.HandedRows.{one_part, all_part}
use Rattle.theory.proofs.Sorted.{
  numbered_left,
  numbered_right,
  numbered_map,
  sorted_append,
  sorted_map,
  map_from,
  from_map,
  ascending_sorted,
}

-- path x comes before path y: by depth, then number
pub data Earlier (parent : ℕ → ℕ) (x y : ℕ) : Type 0 where
  shallower : depth_of parent x < depth_of parent y → Earlier parent x y
  beside : depth_of parent x ≡ depth_of parent y → x < y → Earlier parent x y

module _ (parent : ℕ → ℕ) (count : ℕ) (few : count ≤ 64) where
  -- the paths of a depth
  pub layer_mem : (d x : ℕ) → Memᴰ x (members (layer parent count d)) ↔ ((x < count) × (depth_of parent x ≡ d))
  unfolding layer
  layer_mem d x =
      let m = mem_members (layer parent count d) x (passing_small (λ y. eqb (depth_of parent y) d) count) in
      let w = passing_iff (λ y. eqb (depth_of parent y) d) count x few in (
        λ h. let r = w.0 (m.0 h) in (r.0, eqb→eq (depth_of parent x) d r.1),
        λ h. m.1 (w.1 (h.0, subst (λ (z : ℕ). T (eqb z d)) (sym h.1) (eqb_refl d))),
      )

  -- the child paths of c
  pub child_mem : (c x : ℕ) → Memᴰ x (members (child_paths parent count c)) ↔ ((0 < x) × (x < count) × (parent x ≡ c))
  unfolding child_paths
  child_mem c x =
      let test : ℕ → Bool = λ y. ltb 0 y && eqb (parent y) c in
      let m = mem_members (child_paths parent count c) x (passing_small test count) in
      let w = passing_iff test count x few in (
        λ h.
            let r = w.0 (m.0 h) in
            (ltb→lt 0 x (and_l (ltb 0 x) (eqb (parent x) c) r.1), r.0, eqb→eq (parent x) c (and_r (ltb 0 x) (eqb (parent x) c) r.1)),
        λ h.
            m.1 (w.1 (
              h.1,
              and_i (ltb 0 x) (eqb (parent x) c) (lt→ltb 0 x h.0) (subst (λ (z : ℕ). T (eqb z c)) (sym h.2) (eqb_refl c)),
            )),
      )

  layers_mem : (left d x : ℕ) → Memᴰ x (layers_from parent count left d)
      ↔ ((x < count) × (d ≤ depth_of parent x) × (depth_of parent x < d + left))
  unfolding layers_from
  layers_mem zero d x = (λ m. absurd (Memᴰ.not-nil m), λ h. absurd (omega (arith, h.1, h.2)))
  layers_mem (suc left) d x =
      let again = layers_mem left (suc d) x in
      (λ m. out again.0 (Memᴰ.append_cases here m), λ h. into again.1 h (ℕ_discrete (depth_of parent x) d))
    where
      here : List ℕ
      here = members (layer parent count d)

      Later : Type 0
      Later = (x < count) × (suc d ≤ depth_of parent x) × (depth_of parent x < suc d + left)

      out : (Memᴰ x (layers_from parent count left (suc d)) → Later)
          → Memᴰ x here ⊎ Memᴰ x (layers_from parent count left (suc d))
          → (x < count) × (d ≤ depth_of parent x) × (depth_of parent x < d + suc left)
      out again (inl m) = let r = (layer_mem d x).0 m in (r.0, omega (arith, r.1), omega (arith, r.1))
      out again (inr m) = let r = again m in (r.0, omega (arith, r.1), omega (arith, r.2))

      into : (Later → Memᴰ x (layers_from parent count left (suc d)))
          → (x < count) × (d ≤ depth_of parent x) × (depth_of parent x < d + suc left) → Dec (depth_of parent x ≡ d)
          → Memᴰ x (here ++ layers_from parent count left (suc d))
      into again h (yes e) = Memᴰ.append_left (layers_from parent count left (suc d)) ((layer_mem d x).1 (h.0, e))
      into again h (no n) = Memᴰ.append_right here (again (h.0, omega (arith, h.1), omega (arith, h.2)))

  layers_sorted : (left d : ℕ) → Sorted (Earlier parent) (layers_from parent count left d)
  unfolding layers_from
  layers_sorted zero d = Sorted.none
  layers_sorted (suc left) d =
      sorted_append (level (members (layer parent count d)) (λ x m. ((layer_mem d x).0 m).1)
      (ascending_sorted (members_ascending (layer parent count d))))
      (layers_sorted left (suc d))
      (λ x y m n. shallower (omega (arith, ((layer_mem d x).0 m).1, ((layers_mem left (suc d) y).0 n).1)))
    where
      level : (l : List ℕ) → ((x : ℕ) → Memᴰ x l → depth_of parent x ≡ d) → Sorted ◌<◌ l → Sorted (Earlier parent) l
      level l h Sorted.none = Sorted.none
      level l h (Sorted.next {a = a} {rest = rest} k s) =
          Sorted.next (λ b m. beside (h a (Memᴰ.head refl) ∙ sym (h b (Memᴰ.tail m))) (k b m))
          (level rest (λ x m. h x (Memᴰ.tail m)) s)

  pub order_sorted : Sorted (Earlier parent) (path_order parent count)
  unfolding path_order
  order_sorted = layers_sorted 8 1

  -- every path of a table of depth 8 is there
  pub order_mem : Descending parent → (x : ℕ) → depth_of parent x ≤ 8 → Memᴰ x (path_order parent count) ↔ (x < count)
  unfolding path_order
  order_mem desc x deep = (
    λ m. ((layers_mem 8 1 x).0 m).0,
    λ l. (layers_mem 8 1 x).1 (l, omega (arith, depth_root desc, depth_below desc (below_root desc x)), omega arith),
  )

  pub order_in_table : (x : ℕ) → Memᴰ x (path_order parent count) → x < count
  unfolding path_order
  order_in_table x m = ((layers_mem 8 1 x).0 m).0

-- ---- numbers

-- a member of a set stands in the list of its members where the lesser ones are counted
members_number : (w g n k i : ℕ) → Has w g → k ≤ g → g < k + n → i + size_below w k ≡ size_below w g → NumberedIn (members_from n k w) i g
members_number w g zero k i h l m e = absurd (omega arith)
members_number w g (suc n) k i h l m e =
    pick (ℕ_discrete k g) (bit_cases w k) (λ p j. members_number w g n (suc k) j h p (omega arith))
  where
    pick : Dec (k ≡ g) → Has w k ⊎ (bit w k ≡ 0)
        → (suc k ≤ g → (j : ℕ) → j + size_below w (suc k) ≡ size_below w g → NumberedIn (members_from n (suc k) w) j g)
        → NumberedIn (members_from (suc n) k w) i g
    pick (yes p) b again =
        let z : i ≡ 0 = omega (arith, ap (size_below w) p) in
        rw (from_has w n k (subst (Has w) (sym p) h), z, p) NumberedIn.first
    pick (no p) (inl q) again = next i e
      where
        next : (i : ℕ) → i + size_below w k ≡ size_below w g → NumberedIn (members_from (suc n) k w) i g
        next zero e = absurd (omega (arith, size_below_suc w k, q.one, size_below_mono w (suc k) g (omega arith)))
        next (suc i) e =
            rw (from_has w n k q) (NumberedIn.later (again (omega arith) i (omega (arith, size_below_suc w k, q.one))))
    pick (no p) (inr q) again = rw (from_absent w n k q) (again (omega arith) i (omega (arith, size_below_suc w k)))

-- the number of a member of a set
pub member_number : (w g : ℕ) → w < 2 ^ 64 → Has w g → NumberedIn (members w) (size_below w g) g
unfolding members
member_number w g l h =
    members_number w g 64 0 (size_below w g) h (omega arith) (omega (arith, has_under w 64 g l h)) (omega (arith, size_below_zero w))

-- the parts on path c: one with all goals, if the test says so, then one with each goal of w
unfoldable pub block : (goals : List ℕ) (test : Bool) (w c : ℕ) → List Part
block goals test w c = only_if test (all_part c goals) ++ map (one_part c) (members w)

-- what is in a block
pub data InBlock (goals : List ℕ) (test : Bool) (w c : ℕ) (a : Part) : Type 0 where
  all : test ≡ true → a ≡ all_part c goals → InBlock goals test w c a
  one : (g : ℕ) → Has w g → a ≡ one_part c g → InBlock goals test w c a

module _ (goals : List ℕ) (w c : ℕ) (small : w < 2 ^ 64) where
  pub in_block : (test : Bool) (a : Part) → Memᴰ a (block goals test w c) ↔ InBlock goals test w c a
  unfolding block only_if
  in_block true a = (λ m. out (Memᴰ.cases_cons m), into)
    where
      out : (a ≡ all_part c goals) ⊎ Memᴰ a (map (one_part c) (members w)) → InBlock goals true w c a
      out (inl e) = all refl e
      out (inr m) = let r = map_from (one_part c) (members w) a m in one r.0 ((mem_members w r.0 small).0 r.1) r.2

      into : InBlock goals true w c a → Memᴰ a (all_part c goals ∷ map (one_part c) (members w))
      into (all t e) = Memᴰ.head e
      into (one g h e) =
          Memᴰ.tail (subst (λ (z : Part). Memᴰ z (map (one_part c) (members w))) (sym e)
          (from_map (one_part c) ((mem_members w g small).1 h)))
  in_block false a = (
    λ m. let r = map_from (one_part c) (members w) a m in one r.0 ((mem_members w r.0 small).0 r.1) r.2,
    into,
  )
    where
      into : InBlock goals false w c a → Memᴰ a (map (one_part c) (members w))
      into (all t e) = absurd (false≢true t)
      into (one g h e) =
          subst (λ (z : Part). Memᴰ z (map (one_part c) (members w))) (sym e) (from_map (one_part c) ((mem_members w g small).1 h))

  -- a block is in the order of parts
  pub block_sorted : {parent : ℕ → ℕ} (test : Bool) → (test ≡ true → Several goals) → Sorted (Precedes parent) (block goals test w c)
  unfolding block only_if
  block_sorted {parent} test several = pick test several
    where
      single : (g : ℕ) → Only (g ∷ []) g
      single g = record { listed = Memᴰ.head refl; alone = λ h m. Memᴰ.eq_of_singleton m }

      ones : Sorted (Precedes parent) (map (one_part c) (members w))
      ones = sorted_map (one_part c) (ascending_sorted (members_ascending w)) (λ g h l. by_goal refl g h (single g) (single h) l)

      pick : (test : Bool) → (test ≡ true → Several goals)
          → Sorted (Precedes parent) (only_if test (all_part c goals) ++ map (one_part c) (members w))
      pick false s = ones
      pick true s =
          Sorted.next
          (λ b m.
          let r = map_from (one_part c) (members w) b m in
          subst (λ (z : Part). Precedes parent (all_part c goals) z) (sym r.2) (by_several refl (s refl) r.0 (single r.0)))
          ones

-- the parts of blocks on paths one of which comes before the other
pub blocks_apart : {parent : ℕ → ℕ} {x y : ℕ} {a b : Part} → Earlier parent x y → a.path ≡ x → b.path ≡ y → Precedes parent a b
blocks_apart {parent} (shallower l) e f = by_depth (omega (arith, ap (depth_of parent) e, ap (depth_of parent) f))
blocks_apart {parent} (beside d l) e f = by_path (omega (arith, ap (depth_of parent) e, ap (depth_of parent) f)) (omega arith)

pub block_path : {goals : List ℕ} {test : Bool} {w c : ℕ} {a : Part} → InBlock goals test w c a → a.path ≡ c
block_path (all t e) = ap (λ (z : Part). z.path) e
block_path (one g h e) = ap (λ (z : Part). z.path) e

module _ (goals : List ℕ) (chain : ℕ) (rows : List ℕ) where
  -- the parts on path c
  abbrev pub block_on : ℕ → List Part
  block_on c = block goals (hasb chain c) (get_or rows c 0) c

  only_length : {A : Type 0} (c : ℕ) (a : A) → length (only_if (hasb chain c) a) ≡ bit chain c
  unfolding only_if
  only_length c a = pick (bit_cases chain c)
    where
      pick : Has chain c ⊎ (bit chain c ≡ 0) → length (only_if (hasb chain c) a) ≡ bit chain c
      pick (inl h) = rw (hasb_has chain c h) (sym h.one)
      pick (inr e) = rw (hasb_absent chain c e) (sym e)

  pub block_length : (c : ℕ) → length (block_on c) ≡ parts_on chain rows c
  unfolding block parts_on
  block_length c =
      let w = get_or rows c 0 in
      length-append (only_if (hasb chain c) (all_part c goals)) (map (one_part c) (members w))
      ∙ omega (arith, only_length c (all_part c goals), length-map (members w) (one_part c), size_members w)

  -- a part of the block on c has its number in the whole
  placed : (order : List ℕ) (c i : ℕ) (a : Part) → Memᴰ c order → NumberedIn (block_on c) i a
      → NumberedIn (each_of block_on order) (place_of chain rows order c + i) a
  unfolding each_of place_of
  placed [] c i a m n = absurd (Memᴰ.not-nil m)
  placed (d ∷ rest) c i a m n = pick (eqb d c) refl (λ k. placed rest c i a k n)
    where
      behind : (d ≡ c → ⊥) → (c ≡ d) ⊎ Memᴰ c rest → Memᴰ c rest
      behind h (inl e) = absurd (h (sym e))
      behind h (inr k) = k

      pick : (b : Bool) → eqb d c ≡ b → (Memᴰ c rest → NumberedIn (each_of block_on rest) (place_of chain rows rest c + i) a)
          → NumberedIn (each_of block_on (d ∷ rest)) (place_of chain rows (d ∷ rest) c + i) a
      pick true e again =
          rw (place_of, e, zero-add)
          (numbered_left (each_of block_on rest) (subst (λ (z : ℕ). NumberedIn (block_on z) i a) (sym (eqb-true d c e)) n))
      pick false e again =
          let k = numbered_right (block_on d) (again (behind (eqb-false d c e) (Memᴰ.cases_cons m))) in
          let q : length (block_on d) + (place_of chain rows rest c + i) ≡ parts_on chain rows d + place_of chain rows rest c + i =
          omega (arith, block_length d) in
          rw (place_of, e) (subst (λ (z : ℕ). NumberedIn (block_on d ++ each_of block_on rest) z a) q k)

  -- the number of the part on path c with all goals
  pub number_all : (order : List ℕ) (c : ℕ) → Memᴰ c order → Has chain c
      → NumberedIn (each_of block_on order) (place_of chain rows order c) (all_part c goals)
  unfolding block only_if
  number_all order c m h =
      let q : place_of chain rows order c + 0 ≡ place_of chain rows order c = omega arith in
      subst (λ (z : ℕ). NumberedIn (each_of block_on order) z (all_part c goals)) q
      (placed order c 0 (all_part c goals) m (rw (hasb_has chain c h) NumberedIn.first))

  -- the number of the part on path c with the goal g
  pub number_one : (order : List ℕ) (c g : ℕ) → get_or rows c 0 < 2 ^ 64 → Memᴰ c order → Has (get_or rows c 0) g
      → NumberedIn (each_of block_on order) (number_of chain rows order c g) (one_part c g)
  unfolding block number_of
  number_one order c g l m h =
      placed order c (bit chain c + size_below (get_or rows c 0) g) (one_part c g) m
      (subst (λ (z : ℕ). NumberedIn (block_on c) (z + size_below (get_or rows c 0) g) (one_part c g)) (only_length c (all_part c goals))
      (numbered_right (only_if (hasb chain c) (all_part c goals)) (numbered_map (one_part c) (member_number (get_or rows c 0) g l h))))
