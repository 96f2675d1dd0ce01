-- What is chosen and decided by the words of a sheet is what the table's decisions say.
use Prim.Native.Nat.{ℕ, zero, suc, ◌^◌, ◌≤◌, ◌<◌}
use mathlib.Core.Path.{◌≡◌, sym, ap, ap₂, subst, ◌∙◌}
use mathlib.Core.Logic.{◌⊎◌, inl, inr, ◌↔◌}
use mathlib.Core.Bool.{Bool, true, false, ◌&&◌, ◌||◌}
use mathlib.Core.List.{List}
use native.Mathlib.Omega.{arith}
use native.Mathlib.Decide.{ℕ_discrete, dec_lt}
use lib.Dec.{T, eqb, ltb, ltb→lt, lit<}
use lib.Ieee.Fits.{and_l, and_r, and_i}
use lib.ListN.{length}
use Rattle.files.specs.Table.{Rule}
use Rattle.files.specs.Sets.{Has, hasb, common, lowest, members, join_words}
use Rattle.files.proofs.SetBits.{same_sets, not_has, bit_of_zero, has_union, has_common, common_lt, union_lt}
use Rattle.files.proofs.SetLowest.{lowest_first}
use Rattle.files.proofs.SetMembers.{mem_members}
use Rattle.documents.specs.Paths.{Below, belowb, context_of}
use Rattle.documents.proofs.Paths.{below_le, belowb_iff, context_is}
use Rattle.theory.specs.Reachable.{Fits, reachable, reachb}
use Rattle.theory.specs.Least.{least, passing, some_in}
use Rattle.theory.specs.Decide.{rule_at, both_from, clashb, clash_rule, clashes, clashing, clashes_from, is_dead, dead_paths, sides_from, pairb, pair_rule, is_pair, reacher, root_sides, rootb, root_rule, is_root_pair}
use Rattle.theory.proofs.Walks.{numbered_lt, reach_start}
use Rattle.theory.proofs.Reachable.{T-hasb, reachable_iff, reachable_small, reachb_iff}
use Rattle.theory.proofs.Least.{least_passes, least_least, least_some, passing_iff, passing_small, some_lowest, has_some}
use Rattle.theory.proofs.Decide.{rule_at_numbered, AbsenceWith, absence_test}
use Rattle.reachable.specs.Sheet.{row, back_at, absence_at, set_at, rule_in, left_in, right_in, place_in, absences_in}
use Rattle.reachable.specs.SheetWords.{AbsenceRow, Says}
use Rattle.evidence.specs.Choices.{clash_in, clash_below, clashing_in, row_passes, first_row, clashes_at, clashes_in, dead_needed, straight_in, pair_in, reachers_in, root_in}
use Rattle.evidence.proofs.Joined.{Among, joined_in, joined_all, joined_small}
use Rattle.evidence.proofs.Walking.{same_test, true_of, T_true}

-- ---- a word whose paths are those that pass a test

module _ (w : ℕ) (test : ℕ → Bool) (count : ℕ) (small : w < 2 ^ 64) (exact : (x : ℕ) → Has w x ↔ ((x < count) × T (test x))) where
  pub some_least : some_in w ≡ ltb (least test count) count
  some_least =
      same_test (some_in w) (ltb (least test count) count) (
        λ t. let h = (exact (lowest w)).0 (some_lowest w small t) in least_some test count (lowest w) h.0 h.1,
        λ t.
            let low : least test count < count = ltb→lt (least test count) count t in
            has_some w (least test count) ((exact (least test count)).1 (low, least_passes test count low)),
      )

  pub lowest_least : T (some_in w) → lowest w ≡ least test count
  lowest_least t =
      let h = (exact (lowest w)).0 (some_lowest w small t) in
      let a : least test count ≤ lowest w = least_least test count (lowest w) h.1 in
      let low : least test count < count = omega (arith, h.0) in
      let b : lowest w ≤ least test count = lowest_first w (least test count) ((exact (least test count)).1 (low, least_passes test count low)) in
      omega arith

-- one of two tests passes
or_cases : (a b : Bool) → T (a || b) → T a ⊎ T b
or_cases true b t = inl tt
or_cases false b t = inr t

-- a set and its test of both members
common_test : (a b x : ℕ) → hasb (common a b) x ≡ (hasb a x && hasb b x)
common_test a b x =
    same_test (hasb (common a b) x) (hasb a x && hasb b x) (
      λ t. let h = (has_common a b x).0 ((T-hasb (common a b) x).0 t) in and_i (hasb a x) (hasb b x) ((T-hasb a x).1 h.0) ((T-hasb b x).1 h.1),
      λ t. (T-hasb (common a b) x).1 ((has_common a b x).1 ((T-hasb a x).0 (and_l (hasb a x) (hasb b x) t), (T-hasb b x).0 (and_r (hasb a x) (hasb b x) t))),
    )

module _ {parent : ℕ → ℕ} {rules : List Rule} {count : ℕ} (fits : Fits parent rules count) (some : 0 < count) {sheet : List ℕ}
    (says : Says parent rules count sheet) where
  -- ---- one word

  back_test : (c x y : ℕ) → c < count → x < count → y < count → hasb (set_at back_at sheet c y) x ≡ reachb parent rules count c x y
  back_test c x y hc hx hy =
      let e = says.sets.back c x y hc hy in
      let f = reachb_iff fits c x hc hx y in
      same_test (hasb (set_at back_at sheet c y) x) (reachb parent rules count c x y) (
        λ t. f.1 (e.0 ((T-hasb (set_at back_at sheet c y) x).0 t)).1,
        λ t. (T-hasb (set_at back_at sheet c y) x).1 (e.1 (hx, f.0 t)),
      )

  -- ---- one row

  module _ (j : ℕ) (h : j < absences_in sheet) where
    o : AbsenceRow parent rules (rule_in (row absence_at sheet j)) (row absence_at sheet j)
    o = says.absences.each j h

    -- its rule
    abbrev ru : Rule
    ru = rule_at rules (rule_in (row absence_at sheet j))

    is : ru ≡ o.ru
    is = rule_at_numbered o.rule

    pub row_place : context_of parent ru.left ru.right ≡ place_in (row absence_at sheet j)
    row_place = rw is (context_is fits.descending o.context)

    pub left_low : left_in (row absence_at sheet j) < count
    left_low = omega (arith, o.left, fits.rules_in.left _ o.ru o.rule)

    pub right_low : right_in (row absence_at sheet j) < count
    right_low = omega (arith, o.right, fits.rules_in.right _ o.ru o.rule)

    pub place_low : place_in (row absence_at sheet j) < count
    place_low = omega (arith, o.left, below_le fits.descending o.context.left, fits.rules_in.left _ o.ru o.rule)

    pub row_rule : rule_in (row absence_at sheet j) < length rules
    row_rule = numbered_lt o.rule

    -- the sides of the rule are those of the row
    pub row_left : left_in (row absence_at sheet j) ≡ ru.left
    row_left = rw is o.left

    pub row_right : right_in (row absence_at sheet j) ≡ ru.right
    row_right = rw is o.right

    row_kind : eqb ru.kind 2 ≡ true
    row_kind = rw (is, o.absence)

    pub clash_same : (y : ℕ) → y < count → clashes_at sheet y (row absence_at sheet j) ≡ clashb parent rules count y (rule_in (row absence_at sheet j))
    unfolding clashes_at clash_in clashb both_from reachb
    clash_same y k =
        common_test _ _ y
        ∙ ap₂ (λ (a b : Bool). a && b) (back_test _ y _ place_low k left_low) (back_test _ y _ place_low k right_low)
        ∙ sym (rw (row_kind, row_place, ← row_left, ← row_right))

    -- a rule's context is a prefix of the context of the paths that reach its sides
    pub straight_same : (c p q : ℕ) → ((a : ℕ) → Below parent a p → Below parent a q → Below parent a c) → p < count → q < count
        → straight_in sheet p q (row absence_at sheet j) ≡ pairb parent rules count c p q (rule_in (row absence_at sheet j))
    unfolding straight_in pairb sides_from
    straight_same c p q meet hp hq =
        ap₂ (λ (a b : Bool). a && b) (back_test _ p _ place_low hp left_low) (back_test _ q _ place_low hq right_low)
        ∙ drop
        ∙ sym (rw (row_kind, row_place, ← row_left, ← row_right))
      where
        a : ℕ
        a = place_in (row absence_at sheet j)

        l : Bool
        l = reachb parent rules count a p (left_in (row absence_at sheet j))

        r : Bool
        r = reachb parent rules count a q (right_in (row absence_at sheet j))

        under : T (l && r) → T (belowb parent a c)
        under t =
            (belowb_iff fits.descending a c).1
            (meet a (reach_start ((reachb_iff fits a p place_low hp (left_in (row absence_at sheet j))).0 (and_l l r t)))
            (reach_start ((reachb_iff fits a q place_low hq (right_in (row absence_at sheet j))).0 (and_r l r t))))

        drop : (l && r) ≡ (belowb parent a c && (l && r))
        drop = same_test (l && r) (belowb parent a c && (l && r)) (λ t. and_i (belowb parent a c) (l && r) (under t) t, λ t. and_r (belowb parent a c) (l && r) t)

  -- ---- the first row that passes is the least rule that does

  -- what passes is an absence rule
  abbrev Only : (ℕ → Bool) → Type 0
  Only b = (r : ℕ) → T (b r) → AbsenceWith rules r (λ ru. T true)

  module _ (test b : ℕ → Bool) (same : (j : ℕ) → j < absences_in sheet → test (row absence_at sheet j) ≡ b (rule_in (row absence_at sheet j)))
      (only : Only b) where
    passes : (j : ℕ) → j < absences_in sheet → T (row_passes sheet test j) ↔ T (b (rule_in (row absence_at sheet j)))
    unfolding row_passes
    passes j h = (λ t. rw (same j h) at t, λ t. rw (same j h) t)

    pub first_found : ltb (first_row sheet test) (absences_in sheet) ≡ ltb (least b (length rules)) (length rules)
    unfolding first_row
    first_found =
        same_test (ltb (least (row_passes sheet test) (absences_in sheet)) (absences_in sheet)) (ltb (least b (length rules)) (length rules)) (
          λ t.
              let low : least (row_passes sheet test) (absences_in sheet) < absences_in sheet = ltb→lt _ _ t in
              least_some b (length rules) _ (row_rule _ low) ((passes _ low).0 (least_passes (row_passes sheet test) (absences_in sheet) low)),
          λ t.
              let low : least b (length rules) < length rules = ltb→lt _ _ t in
              let a = only (least b (length rules)) (least_passes b (length rules) low) in
              let f = says.absences.all (least b (length rules)) a.ru a.rule a.absence in
              least_some (row_passes sheet test) (absences_in sheet) f.0 f.1
              ((passes f.0 f.1).1 (rw f.2 (least_passes b (length rules) low))),
        )

    module _ (low : first_row sheet test < absences_in sheet) where
      pub first_passes : test (row absence_at sheet (first_row sheet test)) ≡ true
      unfolding first_row row_passes
      first_passes = T_true _ (least_passes (row_passes sheet test) (absences_in sheet) low)

      pub first_rule : rule_in (row absence_at sheet (first_row sheet test)) ≡ least b (length rules)
      unfolding first_row
      first_rule = omega (arith, above, not_above (dec_lt r (rule_in (row absence_at sheet j))))
        where
          j : ℕ
          j = least (row_passes sheet test) (absences_in sheet)

          r : ℕ
          r = least b (length rules)

          above : r ≤ rule_in (row absence_at sheet j)
          above = least_least b (length rules) (rule_in (row absence_at sheet j)) ((passes j low).0 (least_passes (row_passes sheet test) (absences_in sheet) low))

          r_low : r < length rules
          r_low = omega (arith, above, row_rule j low)

          not_above : Dec (r < rule_in (row absence_at sheet j)) → rule_in (row absence_at sheet j) ≤ r
          not_above (no n) = omega (arith, n)
          not_above (yes l) =
              let a = only r (least_passes b (length rules) r_low) in
              let f = says.absences.all r a.ru a.rule a.absence in
              let m : j ≤ f.0 =
              least_least (row_passes sheet test) (absences_in sheet) f.0 ((passes f.0 f.1).1 (rw f.2 (least_passes b (length rules) r_low))) in
              absurd (later f.0 f.1 f.2 m (ℕ_discrete j f.0))
            where
              later : (i : ℕ) → i < absences_in sheet → rule_in (row absence_at sheet i) ≡ r → j ≤ i → Dec (j ≡ i) → ⊥
              later i h e m (yes s) = omega (arith, e, ap (λ (k : ℕ). rule_in (row absence_at sheet k)) s)
              later i h e m (no s) = omega (arith, e, says.absences.ascending j i (omega (arith, s)) h)

  only_clash : (y : ℕ) → Only (clashb parent rules count y)
  unfolding clashb
  only_clash y r t = let a = (absence_test rules r (λ ru. both_from parent rules count ru y)).0 t in record { ru = a.ru; rule = a.rule; absence = a.absence; holds = tt }

  only_pair : (c p q : ℕ) → Only (λ r. pairb parent rules count c p q r || pairb parent rules count c q p r)
  unfolding pairb
  only_pair c p q r t = either (or_cases (pairb parent rules count c p q r) (pairb parent rules count c q p r) t)
    where
      one : (x y : ℕ) → T (pairb parent rules count c x y r) → AbsenceWith rules r (λ ru. T true)
      one x y u = let a = (absence_test rules r (λ ru. sides_from parent rules count ru c x y)).0 u in record { ru = a.ru; rule = a.rule; absence = a.absence; holds = tt }

      either : T (pairb parent rules count c p q r) ⊎ T (pairb parent rules count c q p r) → AbsenceWith rules r (λ ru. T true)
      either (inl u) = one p q u
      either (inr u) = one q p u

  only_root : (needed : ℕ) → Only (rootb parent rules count needed)
  unfolding rootb
  only_root needed r t = let a = (absence_test rules r (λ ru. root_sides parent rules count needed ru)).0 t in record { ru = a.ru; rule = a.rule; absence = a.absence; holds = tt }

  -- ---- clashes

  -- the least rule that clashes at y
  pub clash_found : (y : ℕ) → y < count → ltb (first_row sheet (clashes_at sheet y)) (absences_in sheet) ≡ clashes parent rules count y
  unfolding clashes clash_rule
  clash_found y k = first_found (clashes_at sheet y) (clashb parent rules count y) (λ j h. clash_same j h y k) (only_clash y)

  pub clash_rule_lem : (y : ℕ) → y < count → first_row sheet (clashes_at sheet y) < absences_in sheet
      → rule_in (row absence_at sheet (first_row sheet (clashes_at sheet y))) ≡ clash_rule parent rules count y
  unfolding clash_rule
  clash_rule_lem y k low = first_rule (clashes_at sheet y) (clashb parent rules count y) (λ j h. clash_same j h y k) (only_clash y) low

  -- a row that clashes at y
  record ClashesBy (n y : ℕ) : Type 0 where
    j : ℕ
    low : j < n
    has : Has (clash_in sheet (row absence_at sheet j)) y

  below_to : (n y : ℕ) → Has (clash_below sheet n) y → ClashesBy n y
  unfolding clash_below
  below_to zero y h = absurd (not_has (bit_of_zero y) h)
  below_to (suc n) y h = pick ((has_union (clash_below sheet n) (clash_in sheet (row absence_at sheet n)) y).0 h) (λ k. below_to n y k)
    where
      pick : Has (clash_below sheet n) y ⊎ Has (clash_in sheet (row absence_at sheet n)) y → (Has (clash_below sheet n) y → ClashesBy n y) → ClashesBy (suc n) y
      pick (inl k) again = let a = again k in record { j = a.j; low = omega (arith, a.low); has = a.has }
      pick (inr k) again = record { j = n; low = omega arith; has = k }

  below_back : (n j y : ℕ) → j < n → Has (clash_in sheet (row absence_at sheet j)) y → Has (clash_below sheet n) y
  unfolding clash_below
  below_back zero j y l h = absurd (omega arith)
  below_back (suc n) j y l h =
      (has_union (clash_below sheet n) (clash_in sheet (row absence_at sheet n)) y).1 (pick (ℕ_discrete j n) (λ k. below_back n j y k h))
    where
      pick : Dec (j ≡ n) → (j < n → Has (clash_below sheet n) y) → Has (clash_below sheet n) y ⊎ Has (clash_in sheet (row absence_at sheet n)) y
      pick (yes e) again = inr (subst (λ (i : ℕ). Has (clash_in sheet (row absence_at sheet i)) y) e h)
      pick (no m) again = inl (again (omega (arith, m)))

  below_small : (n : ℕ) → clash_below sheet n < 2 ^ 64
  unfolding clash_below clash_in
  below_small zero = lit< tt
  below_small (suc n) =
      union_lt (clash_below sheet n) (clash_in sheet (row absence_at sheet n)) (below_small n) (common_lt _ _ (says.sets.back_small _ _))

  -- a path at which a row clashes is one of the table
  clash_in_lem : (j y : ℕ) → j < absences_in sheet → Has (clash_in sheet (row absence_at sheet j)) y → y < count
  unfolding clash_in
  clash_in_lem j y h k = ((says.sets.back _ y _ (place_low j h) (left_low j h)).0 ((has_common _ _ y).0 k).0).0

  pub clashing_same : clashing_in sheet ≡ clashing parent rules count
  unfolding clashing_in clashing clashes_at clashes clash_rule
  clashing_same =
      same_sets (clash_below sheet (absences_in sheet)) (passing (clashes parent rules count) count) (below_small (absences_in sheet))
      (passing_small (clashes parent rules count) count) (λ y l. (λ k. to y (below_to (absences_in sheet) y k), λ k. back y ((is y).0 k)))
    where
      is : (y : ℕ) → Has (passing (clashes parent rules count) count) y ↔ ((y < count) × T (clashes parent rules count y))
      is y = passing_iff (clashes parent rules count) count y fits.few

      to : (y : ℕ) → ClashesBy (absences_in sheet) y → Has (passing (clashes parent rules count) count) y
      to y a =
          let k = clash_in_lem a.j y a.low a.has in
          let t : T (clashb parent rules count y (rule_in (row absence_at sheet a.j))) =
          rw (clash_same a.j a.low y k) at ((T-hasb (clash_in sheet (row absence_at sheet a.j)) y).1 a.has) in
          (is y).1 (k, least_some (clashb parent rules count y) (length rules) _ (row_rule a.j a.low) t)

      back : (y : ℕ) → (y < count) × T (clashes parent rules count y) → Has (clash_below sheet (absences_in sheet)) y
      back y h =
          let low : first_row sheet (clashes_at sheet y) < absences_in sheet = ltb→lt _ _ (rw (clash_found y h.0) h.1) in
          let t = first_passes (clashes_at sheet y) (clashb parent rules count y) (λ j l. clash_same j l y h.0) (only_clash y) low in
          below_back (absences_in sheet) _ y low ((T-hasb _ y).0 (true_of _ t))

  -- ---- dead paths

  module _ (clash : ℕ) (is : clash ≡ clashing parent rules count) where
    pub from_same : (p : ℕ) → p < count → clashes_in sheet clash p ≡ clashes_from parent rules count p
    unfolding clashes_in clashes_from
    from_same p h = rw (says.sets.reach 0 p some h, is)

    -- a path that p reaches and at which a rule clashes
    pub from_clash : (p y : ℕ) → Has (clashes_from parent rules count p) y → (y < count) × T (clashes parent rules count y)
    unfolding clashes_from clashing
    from_clash p y h =
        (passing_iff (clashes parent rules count) count y fits.few).0 ((has_common (reachable parent rules count 0 p) (passing (clashes parent rules count) count) y).0 h).1

    clash_small : clash < 2 ^ 64
    unfolding clashing
    clash_small = rw is (passing_small (clashes parent rules count) count)

    dead_word : ℕ
    dead_word = join_words (set_at back_at sheet 0) (members clash) 0

    dead_iff : (p : ℕ) → Has dead_word p ↔ Has (dead_paths parent rules count) p
    unfolding dead_word dead_paths is_dead clashes_from clashing
    dead_iff p = (λ h. to (joined_in (set_at back_at sheet 0) p (members clash) 0 h), λ h. back ((dead p).0 h))
      where
        dead : (x : ℕ) → Has (passing (is_dead parent rules count) count) x ↔ ((x < count) × T (is_dead parent rules count x))
        dead x = passing_iff (is_dead parent rules count) count x fits.few

        to : Has 0 p ⊎ Among (set_at back_at sheet 0) (members clash) p → Has (passing (is_dead parent rules count) count) p
        to (inl m) = absurd (not_has (bit_of_zero p) m)
        to (inr m) =
            let y-in : Has clash m.of = (mem_members clash m.of clash_small).0 m.member in
            let y-low : m.of < count = in_table m.of y-in in
            let r = (says.sets.back 0 p m.of some y-low).0 m.is in
            (dead p).1 (
              r.0,
              has_some (common (reachable parent rules count 0 p) (clashing parent rules count)) m.of
                  ((has_common (reachable parent rules count 0 p) (clashing parent rules count) m.of).1
                  ((reachable_iff fits 0 p some r.0 m.of).1 r.1, rw is at y-in)),
            )
          where
            in_table : (y : ℕ) → Has clash y → y < count
            in_table y h = ((passing_iff (clashes parent rules count) count y fits.few).0 (rw is at h)).0

        back : (p < count) × T (is_dead parent rules count p) → Has (join_words (set_at back_at sheet 0) (members clash) 0) p
        back h =
            let s : ℕ = common (reachable parent rules count 0 p) (clashing parent rules count) in
            let m = (has_common (reachable parent rules count 0 p) (clashing parent rules count) (lowest s)).0 (some_lowest s from_small h.1) in
            let y-in : Has clash (lowest s) = rw is m.1 in
            joined_all (set_at back_at sheet 0) p (members clash) 0 (lowest s) ((mem_members clash (lowest s) clash_small).1 y-in)
            ((says.sets.back 0 p (lowest s) some (in_table (lowest s) m.1)).1 (h.0, (reachable_iff fits 0 p some h.0 (lowest s)).0 m.0))
          where
            from_small : common (reachable parent rules count 0 p) (clashing parent rules count) < 2 ^ 64
            from_small = common_lt _ _ (reachable_small fits 0 p some h.0)

            in_table : (y : ℕ) → Has (clashing parent rules count) y → y < count
            in_table y k = ((passing_iff (clashes parent rules count) count y fits.few).0 k).0

    pub needed_same : (needed : ℕ) → dead_needed sheet clash needed ≡ common (dead_paths parent rules count) needed
    unfolding dead_needed dead_word dead_paths
    needed_same needed = ap (λ (v : ℕ). common v needed) (same_sets dead_word (dead_paths parent rules count)
        (joined_small (set_at back_at sheet 0) (says.sets.back_small 0) (members clash) 0 (lit< tt)) dead_small (λ p l. dead_iff p))
      where
        dead_small : dead_paths parent rules count < 2 ^ 64
        dead_small = passing_small (is_dead parent rules count) count

  -- ---- pairs

  module _ (c p q : ℕ) (meet : (a : ℕ) → Below parent a p → Below parent a q → Below parent a c) (hp : p < count) (hq : q < count) where
    -- rule number r excludes p and q, straight or crossed
    abbrev pair_test : ℕ → Bool
    pair_test r = pairb parent rules count c p q r || pairb parent rules count c q p r

    pub pair_same : (j : ℕ) → j < absences_in sheet → pair_in sheet p q (row absence_at sheet j) ≡ pair_test (rule_in (row absence_at sheet j))
    unfolding pair_in
    pair_same j h = rw (straight_same j h c p q meet hp hq, straight_same j h c q p (λ a x y. meet a y x) hq hp)

    pub pair_found : ltb (first_row sheet (pair_in sheet p q)) (absences_in sheet) ≡ is_pair parent rules count c p q
    unfolding is_pair pair_rule
    pair_found = first_found (pair_in sheet p q) pair_test pair_same (only_pair c p q)

    pub pair_rule_lem : first_row sheet (pair_in sheet p q) < absences_in sheet
        → rule_in (row absence_at sheet (first_row sheet (pair_in sheet p q))) ≡ pair_rule parent rules count c p q
    unfolding pair_rule
    pair_rule_lem low = first_rule (pair_in sheet p q) pair_test pair_same (only_pair c p q) low

  -- ---- the root pair

  module _ (needed : ℕ) where
    module _ (t : ℕ) (ht : t < count) where
      reaches : ℕ → Bool
      reaches x = hasb needed x && reachb parent rules count 0 x t

      reachers_exact : (x : ℕ) → Has (reachers_in sheet needed t) x ↔ ((x < count) × T (reaches x))
      unfolding reachers_in reaches
      reachers_exact x =
          let e = has_common (set_at back_at sheet 0 t) needed x in
          let b = says.sets.back 0 x t some ht in (
            λ h. let m = e.0 h in let r = b.0 m.0 in
                (r.0, and_i (hasb needed x) (reachb parent rules count 0 x t) ((T-hasb needed x).1 m.1) ((reachb_iff fits 0 x some r.0 t).1 r.1)),
            λ h. e.1 (b.1 (h.0, (reachb_iff fits 0 x some h.0 t).0 (and_r (hasb needed x) (reachb parent rules count 0 x t) h.1)), (T-hasb needed x).0 (and_l (hasb needed x) (reachb parent rules count 0 x t) h.1)),
          )

      reachers_small : reachers_in sheet needed t < 2 ^ 64
      unfolding reachers_in
      reachers_small = common_lt _ _ (says.sets.back_small 0 t)

      pub reachers_some : some_in (reachers_in sheet needed t) ≡ ltb (reacher parent rules count needed t) count
      unfolding reacher reaches
      reachers_some = some_least (reachers_in sheet needed t) reaches count reachers_small reachers_exact

      pub reachers_lowest : T (some_in (reachers_in sheet needed t)) → lowest (reachers_in sheet needed t) ≡ reacher parent rules count needed t
      unfolding reacher reaches
      reachers_lowest s = lowest_least (reachers_in sheet needed t) reaches count reachers_small reachers_exact s

    root_same : (j : ℕ) → j < absences_in sheet → root_in sheet needed (row absence_at sheet j) ≡ rootb parent rules count needed (rule_in (row absence_at sheet j))
    unfolding root_in rootb root_sides
    root_same j h =
        rw (reachers_some (left_in (row absence_at sheet j)) (left_low j h), reachers_some (right_in (row absence_at sheet j)) (right_low j h))
        (sym (rw (row_kind j h, row_place j h, ← row_left j h, ← row_right j h)))

    pub root_found : ltb (first_row sheet (root_in sheet needed)) (absences_in sheet) ≡ is_root_pair parent rules count needed
    unfolding is_root_pair root_rule
    root_found = first_found (root_in sheet needed) (rootb parent rules count needed) root_same (only_root needed)

    module _ (low : first_row sheet (root_in sheet needed) < absences_in sheet) where
      pub root_rule_lem : rule_in (row absence_at sheet (first_row sheet (root_in sheet needed))) ≡ root_rule parent rules count needed
      unfolding root_rule
      root_rule_lem = first_rule (root_in sheet needed) (rootb parent rules count needed) root_same (only_root needed) low

      pub root_passes : root_in sheet needed (row absence_at sheet (first_row sheet (root_in sheet needed))) ≡ true
      root_passes = first_passes (root_in sheet needed) (rootb parent rules count needed) root_same (only_root needed) low
