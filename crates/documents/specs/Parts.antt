-- Part systems: parts, each on a path and naming further parts, that stand for a tree, and judging them part by part.
use Rattle.std.specs.Prelude.{ℕ, ◌<◌, ◌≡◌}
use mathlib.Core.List.{List, [], ◌∷◌, Memᴰ}
use Rattle.files.specs.Table.{Rule, Numbered}
use Rattle.documents.specs.Paths.{Context}
use Rattle.documents.specs.Tree.{Forest, none, tree}

-- a list of parts stands for a list of trees: each naming of a part gets a copy of its own
pub data Unfolds {P : Type 0} (path : P → ℕ) (kids : P → List P) : List P → Forest → Type 0 where
  nothing : Unfolds path kids [] none
  copy : {p : P} {ps : List P} {under rest : Forest} → Unfolds path kids (kids p) under → Unfolds path kids ps rest
      → Unfolds path kids (p ∷ ps) (tree (path p) under rest)

-- a part holds y: it is on path y, or a part that it names holds y
pub data PartHolds {P : Type 0} (path : P → ℕ) (kids : P → List P) : P → ℕ → Type 0 where
  own : {p : P} {y : ℕ} → path p ≡ y → PartHolds path kids p y
  kid : {p : P} {y : ℕ} (k : P) → Memᴰ k (kids p) → PartHolds path kids k y → PartHolds path kids p y

-- a part is named: it is in the list, or a named part names it
pub data Named {P : Type 0} (kids : P → List P) (ps : List P) : P → Type 0 where
  given : {p : P} → Memᴰ p ps → Named kids ps p
  further : {p : P} (k : P) → Named kids ps k → Memᴰ p (kids k) → Named kids ps p

-- no naming goes round: a rank falls from each named part to those that it names
pub record Falls {P : Type 0} (kids : P → List P) (rank : P → ℕ) (ps : List P) : Type 0 where
  pub each : (p k : P) → Named kids ps p → Memᴰ k (kids p) → rank k < rank p

-- a part k may be named by a part on path x: it is on a path of the table, not the root, whose parent is x
pub record MayStand {P : Type 0} (parent : ℕ → ℕ) (count : ℕ) (path : P → ℕ) (x : ℕ) (k : P) : Type 0 where
  pub inner : 0 < path k
  pub small : path k < count
  pub parent_is : parent (path k) ≡ x

-- every naming of a named part fits the table
pub record Fits {P : Type 0} (parent : ℕ → ℕ) (count : ℕ) (path : P → ℕ) (kids : P → List P) (ps : List P) : Type 0 where
  pub each : (p k : P) → Named kids ps p → Memᴰ k (kids p) → MayStand parent count path (path p) k

-- implication p, q, part by part: every named part on the context that holds p holds q
pub record PartsImplication {P : Type 0} (parent : ℕ → ℕ) (path : P → ℕ) (kids : P → List P) (ps : List P) (p q : ℕ) : Type 0 where
  pub every : (c : ℕ) → Context parent p q c → (a : P) → Named kids ps a → path a ≡ c
      → PartHolds path kids a p → PartHolds path kids a q

-- absence p, q, part by part: no named part on the context holds both
pub record PartsAbsence {P : Type 0} (parent : ℕ → ℕ) (path : P → ℕ) (kids : P → List P) (ps : List P) (p q : ℕ) : Type 0 where
  pub never : (c : ℕ) → Context parent p q c → (a : P) → Named kids ps a → path a ≡ c
      → PartHolds path kids a p → PartHolds path kids a q → ⊥

-- a rule, part by part
pub record PartsObeyRule {P : Type 0} (parent : ℕ → ℕ) (path : P → ℕ) (kids : P → List P) (ps : List P) (r : Rule) : Type 0 where
  pub implication : r.kind ≡ 1 → PartsImplication parent path kids ps r.left r.right
  pub absence : r.kind ≡ 2 → PartsAbsence parent path kids ps r.left r.right
  pub along : r.kind ≡ 3 → PartsImplication parent path kids ps r.left r.right
  pub against : r.kind ≡ 3 → PartsImplication parent path kids ps r.right r.left

-- a list of rules, part by part
pub record PartsObey {P : Type 0} (parent : ℕ → ℕ) (path : P → ℕ) (kids : P → List P) (ps : List P) (rules : List Rule) : Type 0 where
  pub each : (r : ℕ) (ru : Rule) → Numbered rules r ru → PartsObeyRule parent path kids ps ru
