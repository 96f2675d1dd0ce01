-- What is chosen from the words of a sheet: clashes, dead paths, pairs and the root pair, by the rows of absence rules.
use Rattle.std.specs.Prelude.{ℕ, zero, suc, Bool, true, false, ◌&&◌, ◌||◌, List, Option, Some, None, eqb, ltb}
use Rattle.files.specs.Sets.{hasb, union, common, members, join_words}
use Rattle.theory.specs.Least.{least, some_in}
use Rattle.reachable.specs.Sheet.{row, reach_at, back_at, absence_at, set_at, left_in, right_in, place_in, absences_in}

module _ (sheet : List ℕ) where
  -- the paths from which both sides of an absence rule are reachable inside its context
  unfoldable pub clash_in : (w : ℕ) → ℕ
  clash_in w = common (set_at back_at sheet (place_in w) (left_in w)) (set_at back_at sheet (place_in w) (right_in w))

  -- the paths at which one of the first n absence rules clashes
  unfoldable pub clash_below : (n : ℕ) → ℕ
  clash_below zero = 0
  clash_below (suc j) = union (clash_below j) (clash_in (row absence_at sheet j))

  -- the paths at which some absence rule clashes
  unfoldable pub clashing_in : ℕ
  clashing_in = clash_below (absences_in sheet)

  -- row number j of an absence rule passes the test
  unfoldable pub row_passes : (test : ℕ → Bool) (j : ℕ) → Bool
  row_passes test j = test (row absence_at sheet j)

  -- the first row of an absence rule that passes the test; the number of rows if none does
  unfoldable pub first_row : (test : ℕ → Bool) → ℕ
  first_row test = least (row_passes test) (absences_in sheet)

  -- the word of that row, if one passes
  unfoldable pub first_word : (test : ℕ → Bool) → Option ℕ
  first_word test =
      elim (ltb (first_row test) (absences_in sheet)) [ true ↦ Some (row absence_at sheet (first_row test)) | false ↦ None ]

  -- an absence rule clashes at y
  unfoldable pub clashes_at : (y w : ℕ) → Bool
  clashes_at y w = hasb (clash_in w) y

  -- the paths of `clash` that are reachable from p inside the root
  unfoldable pub clashes_in : (clash p : ℕ) → ℕ
  clashes_in clash p = common (set_at reach_at sheet 0 p) clash

  -- the dead paths that are needed: from them a path of `clash` is reachable inside the root
  unfoldable pub dead_needed : (clash needed : ℕ) → ℕ
  dead_needed clash needed = common (join_words (set_at back_at sheet 0) (members clash) 0) needed

  -- the left side of an absence rule is reachable from p, and its right side from q, inside its context
  unfoldable pub straight_in : (p q w : ℕ) → Bool
  straight_in p q w = hasb (set_at back_at sheet (place_in w) (left_in w)) p && hasb (set_at back_at sheet (place_in w) (right_in w)) q

  -- an absence rule excludes p and q, straight or crossed
  unfoldable pub pair_in : (p q w : ℕ) → Bool
  pair_in p q w = straight_in p q w || straight_in q p w

  -- the paths needed from which t is reachable inside the root
  unfoldable pub reachers_in : (needed t : ℕ) → ℕ
  reachers_in needed t = common (set_at back_at sheet 0 t) needed

  -- an absence rule stands at the root, and both its sides are reachable there from paths needed
  unfoldable pub root_in : (needed w : ℕ) → Bool
  root_in needed w = eqb (place_in w) 0 && (some_in (reachers_in needed (left_in w)) && some_in (reachers_in needed (right_in w)))
