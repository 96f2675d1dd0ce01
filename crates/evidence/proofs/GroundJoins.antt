-- Grounds decided by the words of a sheet are given exactly where the table's answers say so, and their numbers are the evidence.
use Prim.Native.Nat.{ℕ, ◌^◌, ◌≤◌, ◌<◌}
use mathlib.Core.Path.{◌≡◌, refl, sym, ap, ap₂, subst, ◌∙◌}
use mathlib.Core.Bool.{Bool, true, false, not, ◌&&◌, ◌||◌}
use mathlib.Core.List.{List, ◌++◌, append-nil}
use native.Mathlib.Omega.{arith}
use native.Mathlib.Decide.{ℕ_discrete}
use lib.Dec.{T, eqb, ltb, ltb→lt}
use lib.Ieee.Fits.{and_l, and_r}
use borrow.Author.Tests.{eq-eqb, ne_eqb, lt-ltb, le-ltb, ltb-true}
use Rattle.files.specs.Table.{Rule}
use Rattle.files.specs.Sets.{Has, common, lowest}
use Rattle.files.proofs.SetBits.{has_common, common_lt}
use Rattle.documents.specs.Paths.{Below, context_of}
use Rattle.documents.proofs.Paths.{context_of_context}
use Rattle.theory.specs.Reachable.{Fits, reachb}
use Rattle.theory.specs.Least.{passing, some_in}
use Rattle.theory.specs.Decide.{rule_at, clashing, clashes_from, is_dead, dead_path, dead_rule, dead_paths, pairb, pair_rule, is_pair, pair_side, reacher, is_root_pair, root_first, root_second, is_asked_dead, dead_asked}
use Rattle.theory.specs.Evidence.{first_side, second_side, impliesb, excludesb, yesb, consistentb, dead_numbers_by, dead_numbers, pair_numbers, implication_numbers, absence_numbers, evidence_numbers, inconsistent_numbers}
use Rattle.theory.proofs.Reachable.{reachable_small}
use Rattle.theory.proofs.Least.{passing_iff, passing_small, some_lowest}
use Rattle.reachable.specs.Sheet.{row, absence_at, rule_in, left_in, right_in, place_in, absences_in}
use Rattle.reachable.specs.SheetWords.{Says}
use Rattle.evidence.specs.declared.ground.Ground.{Ground}
use Rattle.evidence.specs.declared.ground.Ground.TheVariants.{Direct, Dead, Pair}
use Rattle.std.specs.Prelude.{Option, Some, None, is_some}
use Rattle.evidence.specs.Choices.{first_row, clashes_at, clashes_in, dead_needed, pair_in, reachers_in, root_in}
use Rattle.evidence.specs.Grounds.{or_else, says_yes, InRange, first_end, second_end, row_ground, dead_at, dead_from, dead_ground, pair_with, pair_ground, root_with, root_ground, implication_ground, exclusion_ground, grounds_on, dead_lowest, conflict_ground, end_numbers, dead_on, pair_on, ground_numbers}
use Rattle.evidence.proofs.Walking.{true_of, T_true, walk_same, direct_same, direct_numbers_lem}
use Rattle.evidence.proofs.Joins.{row_place, row_left, row_right, left_low, right_low, place_low, straight_same, clash_found, clash_rule_lem, from_same, from_clash, needed_same, pair_found, pair_rule_lem, reachers_some, reachers_lowest, root_found, root_rule_lem, root_passes}

-- ---- in range

pub none_range : InRange None
none_range = record {
  direct = λ p q e. absurd (let z : ◌≡◌ {A = ℕ} 0 1 = cc in omega arith);
  dead = λ p y w e. absurd (let z : ◌≡◌ {A = ℕ} 0 1 = cc in omega arith);
  pair = λ x y w side e. absurd (let z : ◌≡◌ {A = ℕ} 0 1 = cc in omega arith);
}

pub direct_range : (a b : ℕ) → a < 64 → b < 64 → InRange (Some (Direct a b))
direct_range a b h k = record {
  direct = λ p q e. let f : a ≡ p = cc in let g : b ≡ q = cc in (omega arith, omega arith);
  dead = λ p y w e. absurd (let z : ◌≡◌ {A = ℕ} 0 1 = cc in omega arith);
  pair = λ x y w side e. absurd (let z : ◌≡◌ {A = ℕ} 0 1 = cc in omega arith);
}

dead_range : (a b v : ℕ) → a < 64 → b < 64 → InRange (Some (Dead a b v))
dead_range a b v h k = record {
  direct = λ p q e. absurd (let z : ◌≡◌ {A = ℕ} 0 1 = cc in omega arith);
  dead = λ p y w e. let f : a ≡ p = cc in let g : b ≡ y = cc in (omega arith, omega arith);
  pair = λ x y w side e. absurd (let z : ◌≡◌ {A = ℕ} 0 1 = cc in omega arith);
}

pair_range : (a b v s : ℕ) → a < 64 → b < 64 → s ≤ 1 → InRange (Some (Pair a b v s))
pair_range a b v s h k l = record {
  direct = λ p q e. absurd (let z : ◌≡◌ {A = ℕ} 0 1 = cc in omega arith);
  dead = λ p y w e. absurd (let z : ◌≡◌ {A = ℕ} 0 1 = cc in omega arith);
  pair = λ x y w side e. let f : a ≡ x = cc in let g : b ≡ y = cc in let i : s ≡ side = cc in (omega arith, omega arith, omega arith);
}

-- ---- one of two grounds

module _ (g h : Option Ground) where
  or_first : is_some g ≡ true → or_else g h ≡ g
  unfolding or_else
  or_first e = rw (or_else, e)

  or_second : is_some g ≡ false → or_else g h ≡ h
  unfolding or_else
  or_second e = rw (or_else, e)

  or_given : is_some (or_else g h) ≡ (is_some g || is_some h)
  or_given = pick (is_some g) refl
    where
      pick : (b : Bool) → is_some g ≡ b → is_some (or_else g h) ≡ (is_some g || is_some h)
      pick true e = rw (or_first e, e)
      pick false e = rw (or_second e, e)

  or_range : InRange g → InRange h → InRange (or_else g h)
  or_range r s = pick (is_some g) refl
    where
      pick : (b : Bool) → is_some g ≡ b → InRange (or_else g h)
      pick true e = rw (or_first e) r
      pick false e = rw (or_second e) s

-- what the test of a row at the root says
root_parts : (sheet : List ℕ) (needed w : ℕ) → T (root_in sheet needed w)
    → T (some_in (reachers_in sheet needed (left_in w))) × T (some_in (reachers_in sheet needed (right_in w)))
unfolding root_in
root_parts sheet needed w t =
    let u = and_r (eqb (place_in w) 0) _ t in
    (and_l (some_in (reachers_in sheet needed (left_in w))) _ u, and_r (some_in (reachers_in sheet needed (left_in w))) _ u)

module _ {parent : ℕ → ℕ} {rules : List Rule} {count : ℕ} (fits : Fits parent rules count) (some : 0 < count) {sheet : List ℕ}
    (says : Says parent rules count sheet) where
  -- ---- the numbers of a row

  module _ (j : ℕ) (h : j < absences_in sheet) (x y : ℕ) (hx : x < count) (hy : y < count) where
    abbrev w : ℕ
    w = row absence_at sheet j

    abbrev ru : Rule
    ru = rule_at rules (rule_in w)

    dead_numbers_lem : dead_on sheet x y w ≡ dead_numbers_by parent rules count x y (rule_in w)
    unfolding dead_on dead_numbers_by end_numbers first_end second_end
    dead_numbers_lem =
        rw (
          row_place fits some says j h,
          ← row_left fits some says j h,
          ← row_right fits some says j h,
          walk_same fits says.laid 0 x y some hx,
          walk_same fits says.laid (place_in w) y (left_in w) (place_low fits some says j h) hy,
          walk_same fits says.laid (place_in w) y (right_in w) (place_low fits some says j h) hy,
        )

    first_end_lem : (side : ℕ) → first_end w side ≡ first_side ru side
    unfolding first_end first_side
    first_end_lem side = λ i. elim (eqb side 0) [ true ↦ row_left fits some says j h i | false ↦ row_right fits some says j h i ]

    second_end_lem : (side : ℕ) → second_end w side ≡ second_side ru side
    unfolding second_end second_side
    second_end_lem side = λ i. elim (eqb side 0) [ true ↦ row_right fits some says j h i | false ↦ row_left fits some says j h i ]

    pair_numbers_lem : (side : ℕ) → pair_on sheet x y w side ≡ pair_numbers parent rules count x y (rule_in w) side
    unfolding pair_on pair_numbers end_numbers
    pair_numbers_lem side =
        rw (
          row_place fits some says j h,
          ← first_end_lem side,
          ← second_end_lem side,
          walk_same fits says.laid (place_in w) x (first_end w side) (place_low fits some says j h) hx,
          walk_same fits says.laid (place_in w) y (second_end w side) (place_low fits some says j h) hy,
        )

  -- a row that is there makes its ground
  row_made : (make : ℕ → Ground) (j : ℕ) → j < absences_in sheet → row_ground sheet make j ≡ Some (make (row absence_at sheet j))
  unfolding row_ground
  row_made make j h = rw (row_ground, lt-ltb j (absences_in sheet) h)

  row_none : (make : ℕ → Ground) (j : ℕ) → ltb j (absences_in sheet) ≡ false → row_ground sheet make j ≡ None
  unfolding row_ground
  row_none make j e = rw (row_ground, e)

  -- ---- dead

  at_made : (p y : ℕ) → first_row sheet (clashes_at sheet y) < absences_in sheet
      → dead_at sheet p y ≡ Some (Dead p y (row absence_at sheet (first_row sheet (clashes_at sheet y))))
  unfolding dead_at
  at_made p y low = row_made (Dead p y) (first_row sheet (clashes_at sheet y)) low

  module _ (p : ℕ) (hp : p < count) where
    -- the first row that clashes at the path that shows p dead
    abbrev at : ℕ
    at = first_row sheet (clashes_at sheet (dead_path parent rules count p))

    data DeadCase (clash : ℕ) : Type 0 where
      alive : is_dead parent rules count p ≡ false → dead_ground sheet clash p ≡ None → DeadCase clash
      dies : is_dead parent rules count p ≡ true → dead_path parent rules count p < count → at < absences_in sheet
          → dead_ground sheet clash p ≡ Some (Dead p (dead_path parent rules count p) (row absence_at sheet at)) → DeadCase clash

    from_small : clashes_from parent rules count p < 2 ^ 64
    unfolding clashes_from
    from_small = common_lt _ _ (reachable_small fits 0 p some hp)

    dead_case : (clash : ℕ) → clash ≡ clashing parent rules count → DeadCase clash
    unfolding is_dead dead_ground dead_from dead_path some_in
    dead_case clash is = pick (eqb s 0) refl
      where
        s : ℕ
        s = clashes_from parent rules count p

        from : clashes_in sheet clash p ≡ s
        from = from_same fits some says clash is p hp

        made : (b : Bool) → eqb s 0 ≡ b → b ≡ false → dead_from sheet p s ≡ dead_at sheet p (lowest s)
        made b e f = rw (dead_from, e, f)

        pick : (b : Bool) → eqb s 0 ≡ b → DeadCase clash
        pick true e = alive (rw e) (ap (dead_from sheet p) from ∙ rw (dead_from, e))
        pick false e =
            let y : Has s (lowest s) = some_lowest s from_small (rw e tt) in
            let c = from_clash fits some says clash is p (lowest s) y in
            let low : first_row sheet (clashes_at sheet (lowest s)) < absences_in sheet = ltb→lt _ _ (rw (clash_found fits some says (lowest s) c.0) c.1) in
            dies (rw e) c.0 low (ap (dead_from sheet p) from ∙ made false e refl ∙ at_made p (lowest s) low)

    module _ (clash : ℕ) (is : clash ≡ clashing parent rules count) where
      dead_given : is_some (dead_ground sheet clash p) ≡ is_dead parent rules count p
      dead_given = pick (dead_case clash is)
        where
          pick : DeadCase clash → is_some (dead_ground sheet clash p) ≡ is_dead parent rules count p
          pick (alive e g) = rw (g, e)
          pick (dies e l low g) = rw (g, e)

      dead_written : is_dead parent rules count p ≡ true → ground_numbers sheet (dead_ground sheet clash p) ≡ dead_numbers parent rules count p
      unfolding ground_numbers dead_numbers dead_rule
      dead_written d = pick (dead_case clash is)
        where
          pick : DeadCase clash → ground_numbers sheet (dead_ground sheet clash p) ≡ dead_numbers parent rules count p
          pick (alive e g) = absurd (subst T (sym d ∙ e) tt)
          pick (dies e l low g) =
              rw g (dead_numbers_lem at low p (dead_path parent rules count p) hp l
              ∙ ap (dead_numbers_by parent rules count p (dead_path parent rules count p)) (clash_rule_lem fits some says (dead_path parent rules count p) l low))

      dead_in : InRange (dead_ground sheet clash p)
      dead_in = pick (dead_case clash is)
        where
          pick : DeadCase clash → InRange (dead_ground sheet clash p)
          pick (alive e g) = rw g none_range
          pick (dies e l low g) = rw g (dead_range p (dead_path parent rules count p) _ (omega (arith, fits.few)) (omega (arith, fits.few)))

  -- ---- a pair

  module _ (p q : ℕ) (hp : p < count) (hq : q < count) where
    abbrev c : ℕ
    c = context_of parent p q

    meet : (a : ℕ) → Below parent a p → Below parent a q → Below parent a c
    meet a x y = (context_of_context fits.descending p q).longest a x y

    abbrev by : ℕ
    by = first_row sheet (pair_in sheet p q)

    data PairCase : Type 0 where
      apart : is_pair parent rules count c p q ≡ false → pair_ground sheet p q ≡ None → PairCase
      barred : is_pair parent rules count c p q ≡ true → by < absences_in sheet
          → pair_ground sheet p q ≡ Some (Pair p q (row absence_at sheet by) (pair_side parent rules count c p q (rule_in (row absence_at sheet by)))) → PairCase

    pair_case : PairCase
    unfolding pair_ground pair_with pair_side
    pair_case = pick (ltb by (absences_in sheet)) refl
      where
        found : ltb by (absences_in sheet) ≡ is_pair parent rules count c p q
        found = pair_found fits some says c p q meet hp hq

        made : by < absences_in sheet → row_ground sheet (pair_with sheet p q) by ≡ Some (pair_with sheet p q (row absence_at sheet by))
        made low = row_made (pair_with sheet p q) by low

        pick : (b : Bool) → ltb by (absences_in sheet) ≡ b → PairCase
        pick true e =
            let low : by < absences_in sheet = ltb-true _ _ e in
            barred (sym found ∙ e) low (made low ∙ rw (straight_same fits some says by low c p q meet hp hq))
        pick false e = apart (sym found ∙ e) (row_none (pair_with sheet p q) by e)

    pair_given : is_some (pair_ground sheet p q) ≡ is_pair parent rules count c p q
    pair_given = pick pair_case
      where
        pick : PairCase → is_some (pair_ground sheet p q) ≡ is_pair parent rules count c p q
        pick (apart e g) = rw (g, e)
        pick (barred e low g) = rw (g, e)

    pair_written : is_pair parent rules count c p q ≡ true
        → ground_numbers sheet (pair_ground sheet p q)
        ≡ pair_numbers parent rules count p q (pair_rule parent rules count c p q) (pair_side parent rules count c p q (pair_rule parent rules count c p q))
    unfolding ground_numbers
    pair_written d = pick pair_case
      where
        pick : PairCase → ground_numbers sheet (pair_ground sheet p q)
            ≡ pair_numbers parent rules count p q (pair_rule parent rules count c p q) (pair_side parent rules count c p q (pair_rule parent rules count c p q))
        pick (apart e g) = absurd (subst T (sym d ∙ e) tt)
        pick (barred e low g) =
            rw g (pair_numbers_lem by low p q hp hq _
            ∙ ap (λ (r : ℕ). pair_numbers parent rules count p q r (pair_side parent rules count c p q r)) (pair_rule_lem fits some says c p q meet hp hq low))

    side_low : (r : ℕ) → pair_side parent rules count c p q r ≤ 1
    unfolding pair_side
    side_low r = pick (pairb parent rules count c p q r) refl
      where
        pick : (b : Bool) → pairb parent rules count c p q r ≡ b → pair_side parent rules count c p q r ≤ 1
        pick true e = rw (pair_side, e) (omega arith)
        pick false e = rw (pair_side, e) (omega arith)

    pair_in_lem : InRange (pair_ground sheet p q)
    pair_in_lem = pick pair_case
      where
        pick : PairCase → InRange (pair_ground sheet p q)
        pick (apart e g) = rw g none_range
        pick (barred e low g) = rw g (pair_range p q _ _ (omega (arith, fits.few)) (omega (arith, fits.few)) (side_low _))

  -- ---- questions

  module _ (clash : ℕ) (is : clash ≡ clashing parent rules count) (p q : ℕ) (hp : p < count) (hq : q < count) where
    abbrev direct : Bool
    direct = reachb parent rules count (context_of parent p q) p q

    goes : direct ≡ true → implication_ground sheet clash p q ≡ Some (Direct p q)
    unfolding implication_ground
    goes e = rw (implication_ground, direct_same fits says.laid p q hp hq, e)

    stays : direct ≡ false → implication_ground sheet clash p q ≡ dead_ground sheet clash p
    unfolding implication_ground
    stays e = rw (implication_ground, direct_same fits says.laid p q hp hq, e)

    pub implication_given : is_some (implication_ground sheet clash p q) ≡ impliesb parent rules count p q
    unfolding impliesb
    implication_given = pick direct refl
      where
        pick : (b : Bool) → direct ≡ b → is_some (implication_ground sheet clash p q) ≡ (direct || is_dead parent rules count p)
        pick true e = rw (goes e, e)
        pick false e = rw (stays e, e) (dead_given p hp clash is)

    pub implication_written : impliesb parent rules count p q ≡ true
        → ground_numbers sheet (implication_ground sheet clash p q) ≡ implication_numbers parent rules count p q
    unfolding impliesb implication_numbers ground_numbers
    implication_written d = pick direct refl
      where
        pick : (b : Bool) → direct ≡ b → ground_numbers sheet (implication_ground sheet clash p q) ≡ implication_numbers parent rules count p q
        pick true e = rw (goes e, implication_numbers, e) (direct_numbers_lem fits says.laid p q hp hq)
        pick false e = rw (stays e, implication_numbers, e) (dead_written p hp clash is (rw e at d))

    pub implication_in : InRange (implication_ground sheet clash p q)
    implication_in = pick direct refl
      where
        pick : (b : Bool) → direct ≡ b → InRange (implication_ground sheet clash p q)
        pick true e = rw (goes e) (direct_range p q (omega (arith, fits.few)) (omega (arith, fits.few)))
        pick false e = rw (stays e) (dead_in p hp clash is)

    exclusion_given : is_some (exclusion_ground sheet clash p q) ≡ excludesb parent rules count p q
    unfolding exclusion_ground excludesb
    exclusion_given =
        or_given _ _
        ∙ ap₂ (λ (a b : Bool). a || b) (dead_given p hp clash is)
        (or_given _ _ ∙ ap₂ (λ (a b : Bool). a || b) (dead_given q hq clash is) (pair_given p q hp hq))

    exclusion_written : excludesb parent rules count p q ≡ true
        → ground_numbers sheet (exclusion_ground sheet clash p q) ≡ absence_numbers parent rules count p q
    unfolding exclusion_ground excludesb absence_numbers
    exclusion_written d = pick (is_dead parent rules count p) refl (is_dead parent rules count q) refl
      where
        first : (b : Bool) → is_dead parent rules count p ≡ b → is_some (dead_ground sheet clash p) ≡ b
        first b e = dead_given p hp clash is ∙ e

        second : (b : Bool) → is_dead parent rules count q ≡ b → is_some (dead_ground sheet clash q) ≡ b
        second b e = dead_given q hq clash is ∙ e

        pick : (a : Bool) → is_dead parent rules count p ≡ a → (b : Bool) → is_dead parent rules count q ≡ b
            → ground_numbers sheet (exclusion_ground sheet clash p q) ≡ absence_numbers parent rules count p q
        pick true e b f = rw (or_first _ _ (first true e), absence_numbers, e) (dead_written p hp clash is e)
        pick false e true f = rw (or_second _ _ (first false e), or_first _ _ (second true f), absence_numbers, e, f) (dead_written q hq clash is f)
        pick false e false f =
            rw (or_second _ _ (first false e), or_second _ _ (second false f), absence_numbers, e, f) (pair_written p q hp hq (rw (e, f) at d))

    exclusion_in : InRange (exclusion_ground sheet clash p q)
    unfolding exclusion_ground
    exclusion_in = or_range _ _ (dead_in p hp clash is) (or_range _ _ (dead_in q hq clash is) (pair_in_lem p q hp hq))

  -- ---- a question by its kind

  module _ (clash : ℕ) (is : clash ≡ clashing parent rules count) (k p q : ℕ) (hp : p < count) (hq : q < count) (low : 1 ≤ k) (high : k ≤ 3) where
    data Kind : Type 0 where
      one : k ≡ 1 → grounds_on sheet clash k p q ≡ record { first = implication_ground sheet clash p q; second = None } → Kind
      two : (k ≡ 1 → ⊥) → k ≡ 2 → grounds_on sheet clash k p q ≡ record { first = exclusion_ground sheet clash p q; second = None } → Kind
      three : (k ≡ 1 → ⊥) → (k ≡ 2 → ⊥) → 3 ≤ k
          → grounds_on sheet clash k p q ≡ record { first = implication_ground sheet clash p q; second = implication_ground sheet clash q p } → Kind

    kind : Kind
    unfolding grounds_on
    kind = pick (ℕ_discrete k 1) (ℕ_discrete k 2)
      where
        pick : Dec (k ≡ 1) → Dec (k ≡ 2) → Kind
        pick (yes e) d = one e (rw (grounds_on, eq-eqb k 1 e))
        pick (no n) (yes e) = two n e (rw (grounds_on, ne_eqb k 1 n, eq-eqb k 2 e))
        pick (no n) (no m) = three n m (omega (arith, n, m)) (rw (grounds_on, ne_eqb k 1 n, ne_eqb k 2 m))

    pub question_yes : says_yes k (grounds_on sheet clash k p q) ≡ yesb parent rules count k p q
    unfolding says_yes yesb
    question_yes = pick kind
      where
        alone : (b : Bool) → (b && true) ≡ b
        alone true = refl
        alone false = refl

        pick : Kind → says_yes k (grounds_on sheet clash k p q) ≡ yesb parent rules count k p q
        pick (one e g) = rw (g, yesb, eq-eqb k 1 e, lt-ltb k 3 (omega arith)) (alone _ ∙ implication_given clash is p q hp hq)
        pick (two n e g) = rw (g, yesb, ne_eqb k 1 n, eq-eqb k 2 e, lt-ltb k 3 (omega arith)) (alone _ ∙ exclusion_given clash is p q hp hq)
        pick (three n m l g) =
            rw (g, yesb, ne_eqb k 1 n, ne_eqb k 2 m, le-ltb k 3 l)
            (ap₂ (λ (a b : Bool). a && b) (implication_given clash is p q hp hq) (implication_given clash is q p hq hp))

    pub question_written : yesb parent rules count k p q ≡ true
        → ground_numbers sheet (grounds_on sheet clash k p q).first ++ ground_numbers sheet (grounds_on sheet clash k p q).second
        ≡ evidence_numbers parent rules count k p q
    unfolding yesb evidence_numbers ground_numbers
    question_written d = pick kind
      where
        pick : Kind → ground_numbers sheet (grounds_on sheet clash k p q).first ++ ground_numbers sheet (grounds_on sheet clash k p q).second
            ≡ evidence_numbers parent rules count k p q
        pick (one e g) =
            rw (g, evidence_numbers, eq-eqb k 1 e, append-nil) (implication_written clash is p q hp hq (rw (yesb, eq-eqb k 1 e) at d))
        pick (two n e g) =
            rw (g, evidence_numbers, ne_eqb k 1 n, eq-eqb k 2 e, append-nil)
            (exclusion_written clash is p q hp hq (rw (yesb, ne_eqb k 1 n, eq-eqb k 2 e) at d))
        pick (three n m l g) =
            let t = true_of _ (rw (yesb, ne_eqb k 1 n, ne_eqb k 2 m) at d) in
            rw (g, evidence_numbers, ne_eqb k 1 n, ne_eqb k 2 m)
            (ap₂ (λ (a b : List ℕ). a ++ b) (implication_written clash is p q hp hq (T_true _ (and_l (impliesb parent rules count p q) (impliesb parent rules count q p) t)))
            (implication_written clash is q p hq hp (T_true _ (and_r (impliesb parent rules count p q) (impliesb parent rules count q p) t))))

    pub question_in : InRange (grounds_on sheet clash k p q).first × InRange (grounds_on sheet clash k p q).second
    question_in = pick kind
      where
        pick : Kind → InRange (grounds_on sheet clash k p q).first × InRange (grounds_on sheet clash k p q).second
        pick (one e g) = rw g (implication_in clash is p q hp hq, none_range)
        pick (two n e g) = rw g (exclusion_in clash is p q hp hq, none_range)
        pick (three n m l g) = rw g (implication_in clash is p q hp hq, implication_in clash is q p hq hp)

    -- the first direction of a co-occurrence
    pub question_there : (k ≡ 1 → ⊥) → (k ≡ 2 → ⊥) → is_some (grounds_on sheet clash k p q).first ≡ impliesb parent rules count p q
    question_there n m = pick kind
      where
        pick : Kind → is_some (grounds_on sheet clash k p q).first ≡ impliesb parent rules count p q
        pick (one e g) = absurd (n e)
        pick (two a e g) = absurd (m e)
        pick (three a b l g) = rw g (implication_given clash is p q hp hq)

  -- ---- an inconsistent set

  module _ (needed : ℕ) where
    abbrev top : ℕ
    top = first_row sheet (root_in sheet needed)

    abbrev first : ℕ
    first = root_first parent rules count needed (rule_in (row absence_at sheet top))

    abbrev second : ℕ
    second = root_second parent rules count needed (rule_in (row absence_at sheet top))

    data RootCase : Type 0 where
      free : is_root_pair parent rules count needed ≡ false → root_ground sheet needed ≡ None → RootCase
      bound : is_root_pair parent rules count needed ≡ true → top < absences_in sheet → first < count → second < count
          → root_ground sheet needed ≡ Some (Pair first second (row absence_at sheet top) 0) → RootCase

    root_case : RootCase
    unfolding root_ground root_with root_first root_second
    root_case = pick (ltb top (absences_in sheet)) refl
      where
        found : ltb top (absences_in sheet) ≡ is_root_pair parent rules count needed
        found = root_found fits some says needed

        both : top < absences_in sheet → T (some_in (reachers_in sheet needed (left_in (row absence_at sheet top)))) × T (some_in (reachers_in sheet needed (right_in (row absence_at sheet top))))
        both low = parts (true_of _ (root_passes fits some says needed low))
          where
            parts : T (root_in sheet needed (row absence_at sheet top)) → T (some_in (reachers_in sheet needed (left_in (row absence_at sheet top)))) × T (some_in (reachers_in sheet needed (right_in (row absence_at sheet top))))
            parts t = root_parts sheet needed (row absence_at sheet top) t

        pick : (b : Bool) → ltb top (absences_in sheet) ≡ b → RootCase
        pick true e =
            let low : top < absences_in sheet = ltb-true _ _ e in
            let t = both low in
            let l = reachers_lowest fits some says needed (left_in (row absence_at sheet top)) (left_low fits some says top low) t.0 in
            let r = reachers_lowest fits some says needed (right_in (row absence_at sheet top)) (right_low fits some says top low) t.1 in
            let hl : reacher parent rules count needed (left_in (row absence_at sheet top)) < count =
            ltb→lt _ _ (rw (reachers_some fits some says needed (left_in (row absence_at sheet top)) (left_low fits some says top low)) at t.0) in
            let hr : reacher parent rules count needed (right_in (row absence_at sheet top)) < count =
            ltb→lt _ _ (rw (reachers_some fits some says needed (right_in (row absence_at sheet top)) (right_low fits some says top low)) at t.1) in
            bound (sym found ∙ e) low (rw (← row_left fits some says top low) hl) (rw (← row_right fits some says top low) hr)
            (row_made (root_with sheet needed) top low ∙ rw (l, r, row_left fits some says top low, row_right fits some says top low))
        pick false e = free (sym found ∙ e) (row_none (root_with sheet needed) top e)

    module _ (clash : ℕ) (is : clash ≡ clashing parent rules count) where
      abbrev d : ℕ
      d = common (dead_paths parent rules count) needed

      last : dead_lowest sheet clash (dead_needed sheet clash needed) ≡ dead_lowest sheet clash d
      last = ap (dead_lowest sheet clash) (needed_same fits some says clash is needed)

      data LastCase : Type 0 where
        spared : is_asked_dead parent rules count needed ≡ false → dead_lowest sheet clash d ≡ None → LastCase
        doomed : is_asked_dead parent rules count needed ≡ true → dead_asked parent rules count needed < count
            → is_dead parent rules count (dead_asked parent rules count needed) ≡ true
            → dead_lowest sheet clash d ≡ dead_ground sheet clash (dead_asked parent rules count needed) → LastCase

      last_case : LastCase
      unfolding is_asked_dead some_in dead_lowest dead_asked dead_paths
      last_case = pick (eqb d 0) refl
        where
          small : d < 2 ^ 64
          small = common_lt _ _ (passing_small (is_dead parent rules count) count)

          pick : (b : Bool) → eqb d 0 ≡ b → LastCase
          pick true e = spared (rw e) (rw (dead_lowest, e))
          pick false e =
              let m = (has_common (passing (is_dead parent rules count) count) needed (lowest d)).0 (some_lowest d small (rw e tt)) in
              let h = (passing_iff (is_dead parent rules count) count (lowest d) fits.few).0 m.0 in
              doomed (rw e) h.0 (T_true _ h.1) (rw (dead_lowest, e))

      pub conflict_given : is_some (conflict_ground sheet clash needed) ≡ not (consistentb parent rules count needed)
      unfolding conflict_ground consistentb
      conflict_given = or_given _ _ ∙ pick root_case last_case
        where
          twice : (b : Bool) → b ≡ not (not b)
          twice true = refl
          twice false = refl

          pick : RootCase → LastCase
              → (is_some (root_ground sheet needed) || is_some (dead_lowest sheet clash (dead_needed sheet clash needed)))
              ≡ not (not (is_root_pair parent rules count needed || is_asked_dead parent rules count needed))
          pick (bound e low hl hr g) l = rw (g, e)
          pick (free e g) (spared f i) = rw (g, e, last, i, f)
          pick (free e g) (doomed f h i v) = rw (g, e, last, v, f) (dead_given (dead_asked parent rules count needed) h clash is ∙ i)

      pub conflict_written : consistentb parent rules count needed ≡ false
          → ground_numbers sheet (conflict_ground sheet clash needed) ≡ inconsistent_numbers parent rules count needed
      unfolding conflict_ground consistentb inconsistent_numbers ground_numbers
      conflict_written n = pick root_case last_case
        where
          pick : RootCase → LastCase → ground_numbers sheet (conflict_ground sheet clash needed) ≡ inconsistent_numbers parent rules count needed
          pick (bound e low hl hr g) l =
              let z : is_some (root_ground sheet needed) ≡ true = rw g in
              rw (or_first _ _ z, g, inconsistent_numbers, e)
              (pair_numbers_lem top low first second hl hr 0
              ∙ ap (λ (r : ℕ). pair_numbers parent rules count (root_first parent rules count needed r) (root_second parent rules count needed r) r 0)
              (root_rule_lem fits some says needed low))
          pick (free e g) (spared f i) = absurd (subst T (rw (e, f) at n) tt)
          pick (free e g) (doomed f h i v) =
              let z : is_some (root_ground sheet needed) ≡ false = rw g in
              rw (or_second _ _ z, inconsistent_numbers, e, last, v) (dead_written (dead_asked parent rules count needed) h clash is i)

      pub conflict_in : InRange (conflict_ground sheet clash needed)
      unfolding conflict_ground
      conflict_in = or_range _ _ (root_in_lem root_case) (last_in last_case)
        where
          root_in_lem : RootCase → InRange (root_ground sheet needed)
          root_in_lem (free e g) = rw g none_range
          root_in_lem (bound e low hl hr g) = rw g (pair_range first second _ 0 (omega (arith, fits.few)) (omega (arith, fits.few)) (omega arith))

          last_in : LastCase → InRange (dead_lowest sheet clash (dead_needed sheet clash needed))
          last_in (spared f i) = rw (last, i) none_range
          last_in (doomed f h i v) = rw (last, v) (dead_in (dead_asked parent rules count needed) h clash is)
