-- Numbers as text: decimal digits, one space between, a line feed after each line.
use Rattle.std.specs.Prelude.{ℕ, zero, suc, ◌+◌, ◌/◌, ◌%◌, Bool, true, false, List, [], ◌∷◌, ◌++◌, ◌≡◌, eqb, length}
use Rattle.std.proofs.lemmas.List.Edits.{sets}

-- the digits of a number, of 0 none, put before a text; `most` bounds how many there are
unfoldable pub digits_before : ℕ → ℕ → List ℕ → List ℕ
digits_before zero n text = text
digits_before (suc most) n text = elim (eqb n 0) [ true ↦ text | false ↦ digits_before most (n / 10) ((48 + n % 10) ∷ text) ]

-- the decimal digits of a number of at most 20 digits, the highest first
unfoldable pub digits : ℕ → List ℕ
digits n = digits_before 19 (n / 10) ((48 + n % 10) ∷ [])

-- numbers, each after a space
unfoldable pub spaced : List ℕ → List ℕ
spaced [] = []
spaced (n ∷ ns) = 32 ∷ (digits n ++ spaced ns)

-- a line feed where it is asked for
unfoldable pub feed : Bool → List ℕ
feed true = 10 ∷ []
feed false = []

-- the text was stored at a place, and r is the place after it
pub record Stored (text out : List ℕ) (at : ℕ) (after : List ℕ) (r : ℕ) : Type 0 where
  pub next : r ≡ at + length text
  pub bytes : after ≡ sets out at text
