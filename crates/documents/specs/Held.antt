-- The arrays by which a document is judged: what each part holds, the least part on each path, and the next on its path.
use Rattle.std.specs.Prelude.{ℕ, Option, Some, None, zero, suc, ◌+◌, ◌-◌, ◌≤◌, ◌<◌, ◌≡◌, cond, length, get_or, ltb, eqb}
use mathlib.Core.List.{List, [], ◌∷◌, Memᴰ}
use Rattle.files.specs.Sets.{union}
use Rattle.files.specs.Table.{Rule}
use Rattle.documents.specs.Answers.{Place, At, Nowhere, Break, Unbroken}
use Rattle.documents.specs.Paths.{context_of}
use Rattle.documents.specs.PartList.{part_limit, Entry}
use Rattle.documents.specs.Reading.{kids_at, entries_from}
use Rattle.documents.specs.Checking.{held_from, breaks, or_later}

-- the least part from number n on that is on path c; 512 where there is none
unfoldable pub next_on : ℕ → ℕ → List Entry → ℕ
next_on c n [] = part_limit
next_on c n (e ∷ es) = cond (eqb e.path c) n (next_on c (n + 1) es)

-- the set of part k as an array of 512 has it; none past it
unfoldable pub set_at : List ℕ → ℕ → ℕ
set_at sets k = cond (ltb k part_limit) (get_or sets k 0) 0

-- all that the parts of a list of numbers hold, as the array has their sets
unfoldable pub held_among : List ℕ → List ℕ → ℕ
held_among sets [] = 0
held_among sets (k ∷ ks) = union (set_at sets k) (held_among sets ks)

-- the part that an array names; 512 where it names none
abbrev pub part_number : Option ℕ → ℕ
part_number None = part_limit
part_number (Some n) = n

-- the part that the array has after one; none after none
abbrev pub follow : List (Option ℕ) → Option ℕ → Option ℕ
follow next None = None
follow next (Some n) = get_or next n None

-- a part that the array has after another has a greater number
pub record Rising (next : List (Option ℕ)) : Type 0 where
  pub greater : (n k : ℕ) → get_or next n None ≡ Some k → n < k
  pub inside : (n k : ℕ) → get_or next n None ≡ Some k → k < part_limit

-- a part is one of those that a document may have
pub record Inside (at : Option ℕ) : Type 0 where
  pub below : (k : ℕ) → at ≡ Some k → k < part_limit

-- the parts that the arrays name are among those that a document may have, and ascend on each path
pub record Linking (first next : List (Option ℕ)) : Type 0 where
  pub firsts : (c : ℕ) → Inside (get_or first c None)
  pub nexts : Rising next

-- as the arrays have it, every part is on one of the 64 paths and names later parts only, below the part count
pub record Laid (s path place : List ℕ) (parts : ℕ) : Type 0 where
  pub small : (i : ℕ) → i < parts → get_or path i 0 < 64
  pub later : (i k : ℕ) → i < parts → Memᴰ k (kids_at s (get_or place i 0)) → (i < k) × (k < parts)

-- the arrays have, of the parts from number n on, what each holds, the least on each path and the next on its path
pub record Linked (s path place : List ℕ) (parts n : ℕ) (sets : List ℕ) (first next : List (Option ℕ)) : Type 0 where
  pub within : n ≤ parts
  pub sets_long : length sets ≡ part_limit
  pub first_long : length first ≡ 256
  pub next_long : length next ≡ part_limit
  pub held : (k : ℕ) → n ≤ k → k < parts → get_or sets k 0 ≡ get_or (held_from k (entries_from s path place k (parts - k))) 0 0
  pub firsts : (c : ℕ) → c < 256 → part_number (get_or first c None) ≡ next_on c n (entries_from s path place n (parts - n))
  pub nexts : (k : ℕ) → n ≤ k → k < parts
      → part_number (get_or next k None) ≡ next_on (get_or path k 0) (k + 1) (entries_from s path place (k + 1) (parts - (k + 1)))
  pub linking : Linking first next

-- a rule by its three numbers
unfoldable pub rule : ℕ → ℕ → ℕ → Rule
rule kind left right = record { kind = kind; left = left; right = right }

-- the first part that breaks the rule, from part n on along the parts on its path, at most `fuel` of them
unfoldable pub break_along : Rule → (sets : List ℕ) (next : List (Option ℕ)) → ℕ → ℕ → ℕ → Place
break_along ru sets next parts zero n = Nowhere
break_along ru sets next parts (suc fuel) n =
    cond (ltb n parts) (cond (breaks ru (get_or sets n 0)) (At n) (break_along ru sets next parts fuel (part_number (get_or next n None)))) Nowhere

-- the least part on path c, as the array has it; 512 where there is none
unfoldable pub first_on : List (Option ℕ) → ℕ → ℕ
first_on first c = cond (ltb c 256) (part_number (get_or first c None)) part_limit

-- the least broken rule from number r on, and the first part on its context that breaks it
unfoldable pub broken_along : (parent : ℕ → ℕ) (parts : ℕ) (sets : List ℕ) (first next : List (Option ℕ)) → ℕ → List Rule → Break
broken_along parent parts sets first next r [] = Unbroken
broken_along parent parts sets first next r (ru ∷ rules) =
    or_later r (break_along ru sets next parts parts (first_on first (context_of parent ru.left ru.right)))
    (broken_along parent parts sets first next (r + 1) rules)
