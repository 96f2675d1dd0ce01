-- What it means that a document obeys a rule. A rule is judged at every node on the context of its two paths.
use Rattle.std.specs.Prelude.{ℕ, ◌≡◌}
use mathlib.Core.List.{List, Memᴰ}
use Rattle.files.specs.Table.{Rule, Numbered}
use Rattle.documents.specs.Paths.{Context}
use Rattle.documents.specs.Tree.{Forest, Node, NodeHolds, Holds}

-- implication p, q: every node on the context that holds p holds q
pub record Implication (parent : ℕ → ℕ) (p q : ℕ) (d : Forest) : Type 0 where
  pub every : (c : ℕ) → Context parent p q c → (under : Forest) → Node c under d → NodeHolds c under p → NodeHolds c under q

-- absence p, q: no node on the context holds both
pub record Absence (parent : ℕ → ℕ) (p q : ℕ) (d : Forest) : Type 0 where
  pub never : (c : ℕ) → Context parent p q c → (under : Forest) → Node c under d → NodeHolds c under p → NodeHolds c under q → ⊥

-- a document obeys a rule: kind 1 is implication, 2 absence, 3 co-occurrence, which is implication each way
pub record ObeysRule (parent : ℕ → ℕ) (r : Rule) (d : Forest) : Type 0 where
  pub implication : r.kind ≡ 1 → Implication parent r.left r.right d
  pub absence : r.kind ≡ 2 → Absence parent r.left r.right d
  pub along : r.kind ≡ 3 → Implication parent r.left r.right d
  pub against : r.kind ≡ 3 → Implication parent r.right r.left d

-- a document obeys a list of rules: each of them
pub record Obeys (parent : ℕ → ℕ) (rules : List Rule) (d : Forest) : Type 0 where
  pub each : (r : ℕ) (ru : Rule) → Numbered rules r ru → ObeysRule parent ru d

-- a document holds every required path
pub record HoldsAll (required : List ℕ) (d : Forest) : Type 0 where
  pub each : (x : ℕ) → Memᴰ x required → Holds d x
