-- Grounds, decided from the words of a sheet, and the numbers that are written for them.
use Rattle.std.specs.Prelude.{ℕ, ◌≤◌, ◌<◌, ◌≡◌, Bool, true, false, ◌&&◌, ◌||◌, List, [], ◌∷◌, ◌++◌, Option, Some, None, is_some, eqb, ltb}
use Rattle.files.specs.Sets.{lowest}
use Rattle.theory.specs.Least.{some_in}
use Rattle.theory.specs.Evidence.{walk_numbers}
use Rattle.reachable.specs.Sheet.{row, below_at, absence_at, context_in, rule_in, left_in, right_in, place_in, absences_in}
use Rattle.evidence.specs.declared.ground.Ground.{Ground}
use Rattle.evidence.specs.declared.ground.Ground.TheVariants.{Direct, Dead, Pair}
use Rattle.evidence.specs.declared.ground.Both.{Both}
use Rattle.evidence.specs.Nearer.{nearer, walk_on}
use Rattle.evidence.specs.Choices.{first_row, clashes_at, clashes_in, dead_needed, straight_in, pair_in, reachers_in, root_in}

-- the first of two grounds if it is given, else the second
unfoldable pub or_else : (g h : Option Ground) → Option Ground
or_else g h = elim (is_some g) [ true ↦ g | false ↦ h ]

-- a question of this kind is answered yes: it has a ground, a co-occurrence one each way
unfoldable pub says_yes : (kind : ℕ) (b : Both) → Bool
says_yes kind b = is_some b.first && (ltb kind 3 || is_some b.second)

-- the paths of a ground are among the 64, and its side is 0 or 1
pub record InRange (g : Option Ground) : Type 0 where
  pub direct : (p q : ℕ) → g ≡ Some (Direct p q) → (p < 64) × (q < 64)
  pub dead : (p y w : ℕ) → g ≡ Some (Dead p y w) → (p < 64) × (y < 64)
  pub pair : (x y w side : ℕ) → g ≡ Some (Pair x y w side) → (x < 64) × (y < 64) × (side ≤ 1)

-- the side of an absence rule that the first path of a pair reaches
unfoldable pub first_end : (w side : ℕ) → ℕ
first_end w side = elim (eqb side 0) [ true ↦ left_in w | false ↦ right_in w ]

-- the side of an absence rule that the second path of a pair reaches
unfoldable pub second_end : (w side : ℕ) → ℕ
second_end w side = elim (eqb side 0) [ true ↦ right_in w | false ↦ left_in w ]

module _ (sheet : List ℕ) where
  -- ---- decided

  -- what row number j makes, if there is such a row; else none
  unfoldable pub row_ground : (make : ℕ → Ground) (j : ℕ) → Option Ground
  row_ground make j = elim (ltb j (absences_in sheet)) [ true ↦ Some (make (row absence_at sheet j)) | false ↦ None ]

  -- p is dead by y and the first row that clashes there
  unfoldable pub dead_at : (p y : ℕ) → Option Ground
  dead_at p y = row_ground (Dead p y) (first_row sheet (clashes_at sheet y))

  -- p is dead by the least path of the set
  unfoldable pub dead_from : (p w : ℕ) → Option Ground
  dead_from p w = elim (eqb w 0) [ true ↦ None | false ↦ dead_at p (lowest w) ]

  -- p is dead: by the least path that it reaches and at which a rule clashes
  unfoldable pub dead_ground : (clash p : ℕ) → Option Ground
  dead_ground clash p = dead_from p (clashes_in sheet clash p)

  -- p and q are excluded by an absence rule: side 0 if its sides as they stand do
  unfoldable pub pair_with : (p q w : ℕ) → Ground
  pair_with p q w = Pair p q w (elim (straight_in sheet p q w) [ true ↦ 0 | false ↦ 1 ])

  -- p and q are excluded: by the first row that does
  unfoldable pub pair_ground : (p q : ℕ) → Option Ground
  pair_ground p q = row_ground (pair_with p q) (first_row sheet (pair_in sheet p q))

  -- the lowest paths needed that reach the sides of an absence rule are excluded by it
  unfoldable pub root_with : (needed w : ℕ) → Ground
  root_with needed w = Pair (lowest (reachers_in sheet needed (left_in w))) (lowest (reachers_in sheet needed (right_in w))) w 0

  -- two paths needed are excluded at the root: by the first row that does
  unfoldable pub root_ground : (needed : ℕ) → Option Ground
  root_ground needed = row_ground (root_with needed) (first_row sheet (root_in sheet needed))

  -- a walk leads from p to q inside their context
  unfoldable pub direct_in : (p q : ℕ) → Bool
  direct_in p q = eqb p q || some_in (nearer sheet (row below_at sheet (context_in sheet p q)) p q)

  -- an implication: direct, else p is dead
  unfoldable pub implication_ground : (clash p q : ℕ) → Option Ground
  implication_ground clash p q = elim (direct_in p q) [ true ↦ Some (Direct p q) | false ↦ dead_ground clash p ]

  -- an absence: p is dead, else q is, else they are excluded
  unfoldable pub exclusion_ground : (clash p q : ℕ) → Option Ground
  exclusion_ground clash p q = or_else (dead_ground clash p) (or_else (dead_ground clash q) (pair_ground p q))

  -- a question, by its kind
  unfoldable pub grounds_on : (clash kind p q : ℕ) → Both
  grounds_on clash kind p q =
      elim (eqb kind 1) [
        | true ↦ record { first = implication_ground clash p q; second = None }
        | false ↦ elim (eqb kind 2) [
          | true ↦ record { first = exclusion_ground clash p q; second = None }
          | false ↦ record { first = implication_ground clash p q; second = implication_ground clash q p }
        ]
      ]

  -- the lowest path of the set is dead; none if the set is empty
  unfoldable pub dead_lowest : (clash d : ℕ) → Option Ground
  dead_lowest clash d = elim (eqb d 0) [ true ↦ None | false ↦ dead_ground clash (lowest d) ]

  -- no document holds all the paths needed: the root pair, else the lowest dead path needed
  unfoldable pub conflict_ground : (clash needed : ℕ) → Option Ground
  conflict_ground clash needed = or_else (root_ground needed) (dead_lowest clash (dead_needed sheet clash needed))

  -- ---- in numbers

  -- 1, walk from p to q inside their context
  unfoldable pub direct_on : (p q : ℕ) → List ℕ
  direct_on p q = 1 ∷ walk_numbers (walk_on sheet (context_in sheet p q) p q)

  -- the walks from x and from y to the sides of an absence rule inside its context
  unfoldable pub end_numbers : (w x y side : ℕ) → List ℕ
  end_numbers w x y side =
      walk_numbers (walk_on sheet (place_in w) x (first_end w side)) ++ walk_numbers (walk_on sheet (place_in w) y (second_end w side))

  -- 2, the dead path, y, rule number, the walk to y inside the root, the walks from y to the rule's sides
  unfoldable pub dead_on : (p y w : ℕ) → List ℕ
  dead_on p y w = 2 ∷ (p ∷ (y ∷ (rule_in w ∷ (walk_numbers (walk_on sheet 0 p y) ++ end_numbers w y y 0))))

  -- 3, first path, second path, rule number, side, a walk from each
  unfoldable pub pair_on : (x y w side : ℕ) → List ℕ
  pair_on x y w side = 3 ∷ (x ∷ (y ∷ (rule_in w ∷ (side ∷ end_numbers w x y side))))

  unfoldable pub ground_numbers : Option Ground → List ℕ
  ground_numbers None = []
  ground_numbers (Some (Direct p q)) = direct_on p q
  ground_numbers (Some (Dead p y w)) = dead_on p y w
  ground_numbers (Some (Pair x y w side)) = pair_on x y w side
