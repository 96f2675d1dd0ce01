-- Numbers as 01 lays them down: groups of seven bits, low group first, shortest form only.
use Rattle.std.specs.Prelude.{ℕ, zero, suc, Result, Ok, Err, ◌+◌, ◌*◌, ◌/◌, ◌%◌, ◌<◌, ◌≤◌, cond, List, [], ◌∷◌, ◌++◌, length, get_or, ltb, eqb}
use Rattle.files.specs.declared.number.Number.{Number}
use Rattle.files.specs.declared.refusal.Condition.{Condition}
use Rattle.files.specs.Refusals.{condition_number}

-- numbers are below this: a number takes at most two bytes
abbrev pub limit : ℕ
limit = 16384

-- the bytes of a number
unfoldable pub bytes_of : ℕ → List ℕ
bytes_of n = cond (ltb n 128) (n ∷ []) ((128 + n % 128) ∷ (n / 128) ∷ [])

-- the bytes of several numbers, one after the other
unfoldable pub bytes_of_all : List ℕ → List ℕ
bytes_of_all [] = []
bytes_of_all (n ∷ ns) = bytes_of n ++ bytes_of_all ns

-- the bytes end before a number, or inside it: its first byte says that another follows (refusal 1)
pub data Cut : List ℕ → Type 0 where
  before : Cut []
  inside : {b : ℕ} → 128 ≤ b → Cut (b ∷ [])

-- a number that has a third byte to come, or whose second byte is 0 (refusal 2)
pub data TooLong : List ℕ → Type 0 where
  third : {b h : ℕ} {rest : List ℕ} → 128 ≤ b → 128 ≤ h → TooLong (b ∷ h ∷ rest)
  empty : {b : ℕ} {rest : List ℕ} → 128 ≤ b → TooLong (b ∷ 0 ∷ rest)

-- every element is a byte
pub record Bytes (s : List ℕ) : Type 0 where
  pub below : (i : ℕ) → get_or s i 0 < 256

-- what bytes begin with: a number and how many bytes it takes, or the number of a refusal
pub data Begun : Type 0 where
  Is : ℕ → ℕ → Begun
  Refused : ℕ → Begun

-- what a result says that bytes begin with
abbrev pub begun : Result Number Condition → Begun
begun (Ok n) = Is n.value n.width
begun (Err c) = Refused (condition_number c)

-- the answer of a first byte that says that another follows, and the second byte
unfoldable pub two_bytes : ℕ → ℕ → Begun
two_bytes low high = cond (eqb high 0) (Refused 2) (cond (ltb 127 high) (Refused 2) (Is (low % 128 + high * 128) 2))

-- the answer of a first byte that says that another follows, and what stands after it
unfoldable pub second_in : ℕ → List ℕ → Begun
second_in low [] = Refused 1
second_in low (high ∷ rest) = two_bytes low high

-- the number that bytes begin with, and how many of them it takes, or its refusal
unfoldable pub number_in : List ℕ → Begun
number_in [] = Refused 1
number_in (low ∷ rest) = cond (ltb low 128) (Is low 1) (second_in low rest)

-- what a result says that bytes begin with, where a refusal is any number
abbrev pub numbered : Result Number ℕ → Begun
numbered (Ok n) = Is n.value n.width
numbered (Err k) = Refused k

-- a number where its test says 0, else that refusal
unfoldable pub passed : ℕ → ℕ → ℕ → Begun
passed n width zero = Is n width
passed n width (suc k) = Refused (suc k)

-- what stands where a number with a test is wanted: the number if it passes, or the refusal
unfoldable pub tested : (ℕ → ℕ) → Begun → Begun
tested test (Is n width) = passed n width (test n)
tested test (Refused k) = Refused k

-- the three things that bytes can begin with, each with its answer
pub data Begins : List ℕ → Begun → Type 0 where
  number : {n : ℕ} (rest : List ℕ) → n < limit → Begins (bytes_of n ++ rest) (Is n (length (bytes_of n)))
  cut : {s : List ℕ} → Cut s → Begins s (Refused 1)
  long : {s : List ℕ} → TooLong s → Begins s (Refused 2)
