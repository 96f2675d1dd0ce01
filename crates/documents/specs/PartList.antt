-- A document as a list of parts: its numbers in order, the refusal that each may meet, and the tree that the list stands for.
use Rattle.std.specs.Prelude.{ℕ, zero, suc, ◌+◌, ◌^◌, ◌<◌, ◌≤◌, ◌≡◌, Bool, true, false, cond, length, get_or, ltb, eqb}
use mathlib.Core.List.{List, [], ◌∷◌, ◌++◌, map, Memᴰ}
use Rattle.files.specs.Format.{Format, done, want, and_then}
use Rattle.files.specs.RuleFile.{between, any, more_ascending}
use Rattle.files.specs.Rules.{add_all}
use Rattle.files.specs.Sets.{Ascending}
use Rattle.documents.specs.Tree.{Forest}
use Rattle.documents.specs.Parts.{Unfolds}

-- how many parts a document may have
abbrev pub part_limit : ℕ
part_limit = 512

-- a part as it is laid down: its path and the parts that it names
pub record Entry : Type 0 where
  pub path : ℕ
  pub kids : List ℕ

-- whether a number is in a list
unfoldable pub listed : ℕ → List ℕ → Bool
listed n [] = false
listed n (x ∷ xs) = cond (eqb x n) true (listed n xs)

-- the paths of the parts that name part n
unfoldable pub namers : ℕ → List Entry → List ℕ
namers n [] = []
namers n (e ∷ es) = cond (listed n e.kids) (e.path ∷ namers n es) (namers n es)

-- the test of the path p of a part after 0, with the set of its namers' paths: 17 where no earlier part names it, 18 where
-- it is on path 0 or some namer is not on its path's parent
unfoldable pub named_test : (parent : ℕ → ℕ) (set p : ℕ) → ℕ
named_test parent set p = cond (eqb set 0) 17 (cond (eqb p 0) 18 (cond (eqb set (2 ^ parent p)) 0 18))

-- the test of the path p of part number n in a table of `count` paths, with the set of its namers' paths: 16 first, where
-- part 0 is not on path 0 or another part's path is not in the table
unfoldable pub path_test : (parent : ℕ → ℕ) (count n set p : ℕ) → ℕ
path_test parent count n set p = cond (eqb n 0) (cond (eqb p 0) 0 16) (cond (ltb p count) (named_test parent set p) 16)

-- the children of part number n, which is on path p: their count first, then their numbers, above n and below the part count
unfoldable pub kids_on : ℕ → ℕ → ℕ → Format Entry
kids_on parts n p = want any (λ k. and_then (more_ascending 19 parts k n []) (λ ks. done (record { path = p; kids = ks })))

-- part number n, of which the namers' paths are the set
unfoldable pub part_at : (parent : ℕ → ℕ) (count parts n set : ℕ) → Format Entry
part_at parent count parts n set = want (path_test parent count n set) (λ p. kids_on parts n p)

-- one part, after the parts es
unfoldable pub one_part : (parent : ℕ → ℕ) (count parts : ℕ) → List Entry → Format Entry
one_part parent count parts es = part_at parent count parts (length es) (add_all 0 (namers (length es) es))

-- so many parts more
unfoldable pub more_parts : (parent : ℕ → ℕ) (count parts : ℕ) → ℕ → List Entry → Format (List Entry)
more_parts parent count parts zero es = done es
more_parts parent count parts (suc k) es = and_then (one_part parent count parts es) (λ e. more_parts parent count parts k (es ++ (e ∷ [])))

-- a document of a table of `count` paths: the part count first, 1 to the limit
unfoldable pub document_file : (parent : ℕ → ℕ) (count : ℕ) → Format (List Entry)
document_file parent count = want (between 1 (part_limit + 1) 15) (λ parts. more_parts parent count parts parts [])

-- the path of a part, by its number
unfoldable pub entry_path : List Entry → ℕ → ℕ
entry_path es n = get_or (map (λ (e : Entry). e.path) es) n 0

-- the parts that a part names, by its number
unfoldable pub entry_kids : List Entry → ℕ → List ℕ
entry_kids es n = get_or (map (λ (e : Entry). e.kids) es) n []

-- the numbers of parts: of each its path, its child count and its children
unfoldable pub part_numbers : List Entry → List ℕ
part_numbers [] = []
part_numbers (e ∷ es) = e.path ∷ length e.kids ∷ (e.kids ++ part_numbers es)

-- the numbers of a document: its part count, then its parts
unfoldable pub document_numbers : List Entry → List ℕ
document_numbers es = length es ∷ part_numbers es

-- a part of the list names part k
pub record Namer (es : List Entry) (k : ℕ) : Type 0 where
  pub part : ℕ
  pub listed : part < length es
  pub names : Memᴰ k (entry_kids es part)

-- part k is named by an earlier part
pub record NamedEarlier (es : List Entry) (k : ℕ) : Type 0 where
  pub by : Namer es k
  pub earlier : by.part < k

-- a part list that breaks no condition of 01, in a table of `count` paths
pub record ValidParts (parent : ℕ → ℕ) (count : ℕ) (es : List Entry) : Type 0 where
  -- 1 to the limit parts
  pub some : 1 ≤ length es
  pub most : length es ≤ part_limit
  -- part 0 is on path 0, every part on a path of the table
  pub root : entry_path es 0 ≡ 0
  pub inside : (n : ℕ) → n < length es → entry_path es n < count
  -- child numbers ascend strictly, above their parent's and below the part count
  pub kids : (n : ℕ) → n < length es → Ascending (suc n) (entry_kids es n)
  pub below : (n k : ℕ) → n < length es → Memᴰ k (entry_kids es n) → k < length es
  -- every part after 0 is named by an earlier part
  pub named : (k : ℕ) → 0 < k → k < length es → NamedEarlier es k
  -- a part that is named is not on path 0, and all its namers are on its path's parent
  pub inner : (n k : ℕ) → n < length es → Memᴰ k (entry_kids es n) → 0 < entry_path es k
  pub parent_is : (n k : ℕ) → n < length es → Memᴰ k (entry_kids es n) → parent (entry_path es k) ≡ entry_path es n

-- the list stands for the tree in which each naming of a part gets a copy of its own, from part 0 on
pub record StandsFor (es : List Entry) (d : Forest) : Type 0 where
  pub unfolds : Unfolds (entry_path es) (entry_kids es) (0 ∷ []) d
