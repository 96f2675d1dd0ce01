-- Sets of paths as 64-bit words: path i is in the set w where bit i of w is 1.
use Rattle.std.specs.Prelude.{ℕ, zero, suc, ◌+◌, ◌-◌, ◌/◌, ◌%◌, ◌^◌, ◌≤◌, min, ◌≡◌, Bool, cond, List, [], ◌∷◌, eqb, ltb}
use Rattle.std.specs.Int.Bits.{bit_and, bit_or}
use Rattle.std.specs.Int.Count.{count_trailing_zeros}

-- 1 if path i is in the set, else 0
unfoldable pub bit : ℕ → ℕ → ℕ
bit w i = w / 2 ^ i % 2

-- path i is in the set
pub record Has (w i : ℕ) : Type 0 where
  pub one : bit w i ≡ 1

-- whether path i is in the set
unfoldable pub hasb : ℕ → ℕ → Bool
hasb w i = eqb (bit w i) 1

-- the set with path i too; a number past the 64 paths changes nothing
unfoldable pub with_path : ℕ → ℕ → ℕ
with_path w i = cond (ltb i 64) (cond (hasb w i) w (w + 2 ^ i)) w

-- the set without path i
unfoldable pub without_path : ℕ → ℕ → ℕ
without_path w i = cond (hasb w i) (w - 2 ^ i) w

-- the paths in one of the two sets
unfoldable pub union : ℕ → ℕ → ℕ
union a b = bit_or a b

-- the paths in both sets
unfoldable pub common : ℕ → ℕ → ℕ
common a b = bit_and a b

-- the paths in the first set and not in the second
unfoldable pub difference : ℕ → ℕ → ℕ
difference a b = a - bit_and a b

-- the paths with numbers below x, of the 64
unfoldable pub below_all : ℕ → ℕ
below_all x = 2 ^ min x 64 - 1

-- the least path in the set, 64 if there is none
unfoldable pub lowest : ℕ → ℕ
lowest w = count_trailing_zeros 64 w

-- the set without its least path
unfoldable pub without_lowest : ℕ → ℕ
without_lowest w = without_path w (lowest w)

-- how many paths of the set have numbers below i
unfoldable pub size_below : ℕ → ℕ → ℕ
size_below w zero = 0
size_below w (suc i) = size_below w i + bit w i

-- how many paths are in the set
unfoldable pub size : ℕ → ℕ
size w = size_below w 64

-- a number put before a list where its bit is 1
abbrev pub keep : ℕ → ℕ → List ℕ → List ℕ
keep zero k rest = rest
keep (suc d) k rest = k ∷ rest

-- the paths of the set among the `left` paths from k on, ascending
unfoldable pub members_from : ℕ → ℕ → ℕ → List ℕ
members_from zero k w = []
members_from (suc left) k w = keep (bit w k) k (members_from left (suc k) w)

-- the paths of the set, ascending
unfoldable pub members : ℕ → List ℕ
members w = members_from 64 0 w

-- the numbers of a list ascend strictly, and the first is at least `low`
pub data Ascending : ℕ → List ℕ → Type 0 where
  none : {low : ℕ} → Ascending low []
  next : {low x : ℕ} {rest : List ℕ} → low ≤ x → Ascending (suc x) rest → Ascending low (x ∷ rest)

-- a result that is the value named, and at most 64
pub record UpTo64 (value r : ℕ) : Type 0 where
  pub is : r ≡ value
  pub small : r ≤ 64

-- the words of the paths of a list join what is there already
unfoldable pub join_words : (word : ℕ → ℕ) (zs : List ℕ) (joined : ℕ) → ℕ
join_words word [] joined = joined
join_words word (z ∷ rest) joined = join_words word rest (union joined (word z))
