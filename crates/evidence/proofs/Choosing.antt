-- Laws of the choice of an absence rule, in the words of the code.
use Prim.Native.Nat.{ℕ, suc, ◌+◌, ◌-◌, ◌≤◌, ◌<◌}
use mathlib.Core.Path.{◌≡◌, refl, sym, ap, ◌∙◌}
use mathlib.Core.Bool.{Bool, true, false, not}
use Rattle.std.specs.Prelude.{Option, Some, None}
use mathlib.Core.List.{List}
use native.Mathlib.Omega.{arith}
use native.Mathlib.Numerals.{add-one}
use lib.Dec.{eqb, ltb}
use borrow.Author.Tests.{eq-eqb, ne_eqb, lt-ltb, le-ltb}
use Rattle.files.specs.Sets.{hasb, union, common, members, join_words}
use Rattle.theory.specs.Least.{first_from, least, some_in}
use Rattle.reachable.specs.Sheet.{row, set_at, left_in, right_in, place_in, absences_in}
use Rattle.evidence.specs.Choices.{clash_in, clash_below, clashing_in, row_passes, first_row, first_word, clashes_at, clashes_in, dead_needed, straight_in, pair_in, reachers_in, root_in}

-- ---- clashes

module _ (sheet : List ℕ) where
  pub clash_is : (w a l r s t v : ℕ) → a ≡ place_in w → l ≡ left_in w → r ≡ right_in w → s ≡ set_at 512 sheet a l → t ≡ set_at 512 sheet a r
      → v ≡ common s t → v ≡ clash_in sheet w
  unfolding clash_in
  clash_is w a l r s t v e f g h k m = rw (m, h, k, e, f, g)

  pub below_start : 0 ≡ clash_below sheet 0
  unfolding clash_below
  below_start = refl

  pub below_on : (j w a b u : ℕ) → w ≡ clash_below sheet j → a ≡ row 1408 sheet j → b ≡ clash_in sheet a → u ≡ union w b → u ≡ clash_below sheet (j + 1)
  unfolding clash_below
  below_on j w a b u inv e f g = rw (add-one j, g, f, e, inv)

  pub below_end : (n j w : ℕ) → w ≡ clash_below sheet j → n ≡ absences_in sheet → j ≤ n → n ≤ j → w ≡ clashing_in sheet
  unfolding clashing_in
  below_end n j w inv e h k = inv ∙ ap (clash_below sheet) ((let d : j ≡ n = omega arith in d) ∙ e)

pub ruleset clash_laws = (clash_is)

pub ruleset below_laws = (below_start, below_on, below_end)

-- ---- the first row that passes

pub row_start : (sheet : List ℕ) (test : ℕ → Bool) → first_from (row_passes sheet test) (absences_in sheet - 0) 0 ≡ first_row sheet test
unfolding first_row least
row_start sheet test = ap (λ (k : ℕ). first_from (row_passes sheet test) k 0) (let d : absences_in sheet - 0 ≡ absences_in sheet = omega arith in d)

-- the word of row number j, if there is such a row
word_of : (sheet : List ℕ) (j : ℕ) → Option ℕ
word_of sheet j = elim (ltb j (absences_in sheet)) [ true ↦ Some (row 1408 sheet j) | false ↦ None ]

word_is : (sheet : List ℕ) (test : ℕ → Bool) (j : ℕ) → first_row sheet test ≡ j → word_of sheet j ≡ first_word sheet test
unfolding first_word word_of
word_is sheet test j e = ap (word_of sheet) (sym e)

module _ (sheet : List ℕ) (test : ℕ → Bool) (j : ℕ) (inv : first_from (row_passes sheet test) (absences_in sheet - j) j ≡ first_row sheet test) where
  module _ (w : ℕ) (t : Bool) (more : j < absences_in sheet) (word : w ≡ row 1408 sheet j) (is : t ≡ test w) where
    row_test : row_passes sheet test j ≡ t
    unfolding row_passes
    row_test = ap test (sym word) ∙ sym is

    left : absences_in sheet - j ≡ suc (absences_in sheet - (j + 1))
    left = omega arith

    pub row_found : t ≡ true → Some w ≡ first_word sheet test
    unfolding first_from word_of
    row_found h =
        ap Some word
        ∙ (let e : Some (row 1408 sheet j) ≡ word_of sheet j = rw (word_of, lt-ltb j (absences_in sheet) more) in e)
        ∙ word_is sheet test j (sym inv ∙ ap (λ (k : ℕ). first_from (row_passes sheet test) k j) left ∙ rw (first_from, row_test, h))

    pub row_on : t ≡ false → first_from (row_passes sheet test) (absences_in sheet - (j + 1)) (j + 1) ≡ first_row sheet test
    unfolding first_from
    row_on h =
        ap (λ (k : ℕ). first_from (row_passes sheet test) (absences_in sheet - (j + 1)) k) (add-one j)
        ∙ sym (ap (λ (k : ℕ). first_from (row_passes sheet test) k j) left ∙ rw (first_from, row_test, h))
        ∙ inv

  pub row_end : absences_in sheet ≤ j → None ≡ first_word sheet test
  unfolding first_from word_of
  row_end h =
      (let e : None ≡ word_of sheet j = rw (word_of, le-ltb j (absences_in sheet) h) in e)
      ∙ word_is sheet test j (sym inv ∙ rw (let d : absences_in sheet - j ≡ 0 = omega arith in d))

pub ruleset row_laws = (row_start, row_found, row_on, row_end)

pub at_is : (sheet : List ℕ) (w y v : ℕ) (t : Bool) → v ≡ clash_in sheet w → t ≡ hasb v y → t ≡ clashes_at sheet y w
unfolding clashes_at
at_is sheet w y v t e f = rw (← e) f

pub ruleset at_laws = (at_is)

-- ---- dead paths

module _ (sheet : List ℕ) (clash : ℕ) where
  pub from_is : (p s w : ℕ) → s ≡ set_at 0 sheet 0 p → w ≡ common s clash → w ≡ clashes_in sheet clash p
  unfolding clashes_in
  from_is p s w e f = rw (← e) f

  pub needed_is : (needed w r : ℕ) → w ≡ join_words (set_at 512 sheet 0) (members clash) 0 → r ≡ common w needed → r ≡ dead_needed sheet clash needed
  unfolding dead_needed
  needed_is needed w r e f = rw (← e) f

pub ruleset dead_laws = (from_is, needed_is)

-- ---- pairs

module _ (sheet : List ℕ) (w a l s p q : ℕ) (t : Bool) (place : a ≡ place_in w) (left_is : l ≡ left_in w) (is : s ≡ set_at 512 sheet a l)
    (first : t ≡ hasb s p) where
  left_test : hasb (set_at 512 sheet (place_in w) (left_in w)) p ≡ t
  left_test = rw (← place, ← left_is, ← is) (sym first)

  pub straight_first : t ≡ false → false ≡ straight_in sheet p q w
  unfolding straight_in
  straight_first h = rw (left_test, h)

  pub straight_second : (r s' : ℕ) (t' : Bool) → t ≡ true → r ≡ right_in w → s' ≡ set_at 512 sheet a r → t' ≡ hasb s' q → t' ≡ straight_in sheet p q w
  unfolding straight_in
  straight_second r s' t' h e f g = rw (left_test, h) (rw (f, place, e) at g)

pub ruleset straight_laws = (straight_first, straight_second)

module _ (sheet : List ℕ) (w p q : ℕ) (t : Bool) (first : t ≡ straight_in sheet p q w) where
  pub pair_straight : t ≡ true → true ≡ pair_in sheet p q w
  unfolding pair_in
  pair_straight h = rw (← first, h)

  pub pair_crossed : (u : Bool) → t ≡ false → u ≡ straight_in sheet q p w → u ≡ pair_in sheet p q w
  unfolding pair_in
  pair_crossed u h e = rw (← first, h) e

pub ruleset pair_laws = (pair_straight, pair_crossed)

-- ---- the root pair

pub reachers_is : (sheet : List ℕ) (needed t s r : ℕ) → s ≡ set_at 512 sheet 0 t → r ≡ common s needed → r ≡ reachers_in sheet needed t
unfolding reachers_in
reachers_is sheet needed t s r e f = rw (← e) f

module _ (sheet : List ℕ) (needed w a : ℕ) (place : a ≡ place_in w) where
  pub root_away : (a ≡ 0 → ⊥) → false ≡ root_in sheet needed w
  unfolding root_in
  root_away n = rw (ne_eqb (place_in w) 0 (λ e. n (place ∙ e)))

  module _ (l s : ℕ) (here : a ≡ 0) (left_is : l ≡ left_in w) (first : s ≡ reachers_in sheet needed l) where
    at_root_lem : eqb (place_in w) 0 ≡ true
    at_root_lem = eq-eqb (place_in w) 0 (sym place ∙ here)

    first_is : reachers_in sheet needed (left_in w) ≡ s
    first_is = rw (← left_is) (sym first)

    pub root_left : s ≡ 0 → false ≡ root_in sheet needed w
    unfolding root_in some_in
    root_left z = rw (at_root_lem, first_is, eq-eqb s 0 z)

    pub root_right : (r u : ℕ) → (s ≡ 0 → ⊥) → r ≡ right_in w → u ≡ reachers_in sheet needed r → not (eqb u 0) ≡ root_in sheet needed w
    unfolding root_in some_in
    root_right r u n e f = rw (at_root_lem, first_is, ne_eqb s 0 n, ← e, ← f)

pub ruleset root_laws = (root_away, root_left, root_right)
