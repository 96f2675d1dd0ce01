-- Steps, walks inside a path, reachable, dead, and pairs that an absence rule excludes.
use Rattle.std.specs.Prelude.{ℕ, ◌+◌, ◌*◌, ◌<◌, ◌≡◌, ◌⊎◌, List, [], ◌∷◌}
use Rattle.files.specs.Table.{Rule, Numbered}
use Rattle.documents.specs.Paths.{Below, Context}

-- a step from x to y with its code: to the parent (0), along rule r (2r+1, implication or co-occurrence), or against
-- it (2r+2, co-occurrence only)
pub data Step (parent : ℕ → ℕ) (rules : List Rule) (x code y : ℕ) : Type 0 where
  climb : 0 < x → code ≡ 0 → parent x ≡ y → Step parent rules x code y
  along : (r : ℕ) (ru : Rule) → Numbered rules r ru → (ru.kind ≡ 1) ⊎ (ru.kind ≡ 3) → code ≡ 2 * r + 1
      → ru.left ≡ x → ru.right ≡ y → Step parent rules x code y
  against : (r : ℕ) (ru : Rule) → Numbered rules r ru → ru.kind ≡ 3 → code ≡ 2 * r + 2
      → ru.right ≡ x → ru.left ≡ y → Step parent rules x code y

-- a walk inside c, with the codes of its steps: it visits no path outside c's subtree
pub data Walk (parent : ℕ → ℕ) (rules : List Rule) (c : ℕ) : ℕ → List ℕ → ℕ → Type 0 where
  stay : {x : ℕ} → Below parent c x → Walk parent rules c x [] x
  step : {x y z code : ℕ} {codes : List ℕ} → Below parent c x → Step parent rules x code y
      → Walk parent rules c y codes z → Walk parent rules c x (code ∷ codes) z

-- y is reachable from x inside c
pub record Reach (parent : ℕ → ℕ) (rules : List Rule) (c x y : ℕ) : Type 0 where
  pub codes : List ℕ
  pub walk : Walk parent rules c x codes y

-- p is dead, shown by y and rule number r: y is reachable from p inside the root, and r is an absence rule whose
-- context is a prefix of y and whose sides are both reachable from y inside that context
pub record DeadBy (parent : ℕ → ℕ) (rules : List Rule) (p y r : ℕ) : Type 0 where
  pub ru : Rule
  pub rule : Numbered rules r ru
  pub absence : ru.kind ≡ 2
  pub context : ℕ
  pub is_context : Context parent ru.left ru.right context
  pub prefix : Below parent context y
  pub here : Reach parent rules 0 p y
  pub left : Reach parent rules context y ru.left
  pub right : Reach parent rules context y ru.right

-- p is dead
pub record Dead (parent : ℕ → ℕ) (rules : List Rule) (p : ℕ) : Type 0 where
  pub y : ℕ
  pub r : ℕ
  pub by : DeadBy parent rules p y r

-- absence rule number r excludes p and q below c: its context is a prefix of c, and inside it the left side is
-- reachable from p and the right side from q
pub record PairBy (parent : ℕ → ℕ) (rules : List Rule) (c p q r : ℕ) : Type 0 where
  pub ru : Rule
  pub rule : Numbered rules r ru
  pub absence : ru.kind ≡ 2
  pub context : ℕ
  pub is_context : Context parent ru.left ru.right context
  pub prefix : Below parent context c
  pub left : Reach parent rules context p ru.left
  pub right : Reach parent rules context q ru.right

-- some absence rule excludes p and q below c, with its sides as they stand or crossed
pub data Pair (parent : ℕ → ℕ) (rules : List Rule) (c p q : ℕ) : Type 0 where
  straight : (r : ℕ) → PairBy parent rules c p q r → Pair parent rules c p q
  crossed : (r : ℕ) → PairBy parent rules c q p r → Pair parent rules c p q
