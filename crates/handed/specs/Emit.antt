-- The document's numbers as the code emits them, one after the other, from a sheet and a plan into a lent buffer.
use Rattle.std.specs.Prelude.{ℕ, ◌+◌, ◌%◌, ◌≡◌, Bool, true, false, List, [], ◌∷◌, ◌++◌, length, get_or}
use Rattle.std.proofs.lemmas.List.Edits.{sets}
use Rattle.files.specs.Number.{bytes_of_all}
use Rattle.files.specs.Writing.{wrapped}
use Rattle.files.specs.Sets.{bit, hasb, union, common, size_below, size, members}
use Rattle.reachable.specs.Sheet.{row, above_at, below_at, child_at, slot_of}
use Rattle.theory.specs.Handed.{gather, each_of, only_if}
use Rattle.handed.specs.Goals.{one_in}
use Rattle.handed.specs.Plan.{first_at, whole_in, all_for}

-- how many bytes numbers take, each modulo the limit
unfoldable pub size_of : List ℕ → ℕ
size_of numbers = length (bytes_of_all (wrapped numbers))

-- the numbers are emitted from `at` on, as far as the buffer goes: the place after them, and the buffer then
pub record Emitted (numbers out : List ℕ) (at : ℕ) (after : List ℕ) (next : ℕ) : Type 0 where
  pub place : next ≡ at + size_of numbers
  pub buffer : after ≡ sets out at (bytes_of_all (wrapped numbers))

-- the number of the first part on path k
abbrev pub first_in : (plan : List ℕ) (k : ℕ) → ℕ
first_in plan k = get_or plan (first_at + k) 0 % 65536

-- the number of the part on path k with the one goal g
unfoldable pub number_in : (plan : List ℕ) (k g : ℕ) → ℕ
number_in plan k g = first_in plan k + (bit (whole_in plan) k + size_below (get_or plan k 0) g)

-- that number as a list of one
unfoldable pub one_number : (plan : List ℕ) (k g : ℕ) → List ℕ
one_number plan k g = number_in plan k g ∷ []

-- the numbers of a part's children on path k: the one with all goals, if it is a child, then those with one of the goals
unfoldable pub kids_under : (plan : List ℕ) (k : ℕ) (all : Bool) (goals : ℕ) → List ℕ
kids_under plan k all goals = only_if all (first_in plan k) ++ each_of (one_number plan k) (members goals)

-- the child paths of c on which a part there has children: `more` has the paths of the child with all goals, w the others' goals
unfoldable pub kid_paths : (sheet : List ℕ) (c more w : ℕ) → ℕ
kid_paths sheet c more w = common (union more (gather (λ g. row above_at sheet g) 64 w 0)) (row child_at sheet c)

-- how many children a part on path c has
unfoldable pub kid_count : (sheet : List ℕ) (c more w : ℕ) → ℕ
kid_count sheet c more w = size (common more (row child_at sheet c)) + size w

module _ (sheet plan : List ℕ) where
  -- the numbers of a part's children on path k
  unfoldable pub kids_on_path : (more w k : ℕ) → List ℕ
  kids_on_path more w k = kids_under plan k (hasb more k) (common w (row below_at sheet k))

  -- the numbers of a part on path c: its path, its child count and its children
  unfoldable pub part_in : (c more w : ℕ) → List ℕ
  part_in c more w = c ∷ kid_count sheet c more w ∷ each_of (kids_on_path more w) (members (kid_paths sheet c more w))

  -- the numbers of the part on path c, of depth d + 1, with the one goal g
  unfoldable pub one_part_in : (d c g : ℕ) → List ℕ
  one_part_in d c g = part_in c 0 (one_in sheet d c g)

  -- the numbers of the part on path c with all goals, if there is one
  unfoldable pub whole_part_in : (c : ℕ) → List ℕ
  whole_part_in c = elim (hasb (whole_in plan) c) [ true ↦ part_in c (whole_in plan) (all_for sheet plan c) | false ↦ [] ]

  -- the numbers of the parts on path c
  unfoldable pub parts_numbers : (c : ℕ) → List ℕ
  parts_numbers c = whole_part_in c ++ each_of (one_part_in (slot_of sheet c) c) (members (get_or plan c 0))
