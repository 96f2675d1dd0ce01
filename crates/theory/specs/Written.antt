-- The written walk: the fewest steps, and among those the smallest codes, compared first step first.
use Rattle.std.specs.Prelude.{ℕ, ◌<◌, ◌≡◌, List, ◌∷◌, length}
use Rattle.files.specs.Table.{Rule}
use Rattle.theory.specs.Walk.{Walk}

-- as many codes, and at the first difference the smaller code
pub data Smaller : List ℕ → List ℕ → Type 0 where
  here : {a b : ℕ} {s t : List ℕ} → a < b → length s ≡ length t → Smaller (a ∷ s) (b ∷ t)
  later : {a : ℕ} {s t : List ℕ} → Smaller s t → Smaller (a ∷ s) (a ∷ t)

-- codes that come before others: fewer, or as many and smaller
pub data Before (s t : List ℕ) : Type 0 where
  shorter : length s < length t → Before s t
  smaller : Smaller s t → Before s t

-- the walk that is written: no other walk between the same paths inside c comes before it
pub record Written (parent : ℕ → ℕ) (rules : List Rule) (c x : ℕ) (codes : List ℕ) (y : ℕ) : Type 0 where
  pub walk : Walk parent rules c x codes y
  pub least : (others : List ℕ) → Walk parent rules c x others y → Before others codes → ⊥
