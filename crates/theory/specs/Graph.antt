-- Algorithm 3.4 and definitions 3.5 and 3.6 of source document 000 in its own words: the constraint graph, implication paths in
-- it, and when it is called inconsistent. These do not decide: they are stated to be shown wrong.
use Rattle.std.specs.Prelude.{ℕ, ◌≡◌, List}
use Rattle.files.specs.Table.{Rule, Numbered}
use Rattle.documents.specs.Paths.{Context}
use Rattle.theory.specs.Walk.{Step}

-- an implication path from p to q: a sequence of i-edges, from a path to its parent or by a rule of Σ; empty for p = q
pub data ImplicationPath (parent : ℕ → ℕ) (rules : List Rule) : ℕ → ℕ → Type 0 where
  empty : {p : ℕ} → ImplicationPath parent rules p p
  edge : {p q r code : ℕ} → Step parent rules p code q → ImplicationPath parent rules q r → ImplicationPath parent rules p r

-- a c-edge: p and q are related by absence
pub data Contradiction (rules : List Rule) (p q : ℕ) : Type 0 where
  straight : (r : ℕ) (ru : Rule) → Numbered rules r ru → ru.kind ≡ 2 → ru.left ≡ p → ru.right ≡ q → Contradiction rules p q
  turned : (r : ℕ) (ru : Rule) → Numbered rules r ru → ru.kind ≡ 2 → ru.right ≡ p → ru.left ≡ q → Contradiction rules p q

-- the graph is called inconsistent: two paths related by absence have implication paths from one path (1), or have the root as
-- their longest common prefix (3); (2), a second root, is in no table
pub data GraphInconsistent (parent : ℕ → ℕ) (rules : List Rule) : Type 0 where
  implied : {p q r : ℕ} → ImplicationPath parent rules p q → ImplicationPath parent rules p r → Contradiction rules q r
      → GraphInconsistent parent rules
  at_root : {p q : ℕ} → Contradiction rules p q → Context parent p q 0 → GraphInconsistent parent rules

-- a path mentioned in Σ
pub data Mentioned (rules : List Rule) (x : ℕ) : Type 0 where
  left : (r : ℕ) (ru : Rule) → Numbered rules r ru → ru.left ≡ x → Mentioned rules x
  right : (r : ℕ) (ru : Rule) → Numbered rules r ru → ru.right ≡ x → Mentioned rules x
