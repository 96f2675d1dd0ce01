-- Definitions 2.1, 2.2 and 2.3 of source document 000 in its own words: extents of paths, inclusion and disjointness.
use Rattle.std.specs.Prelude.{ℕ, ◌≡◌}
use Rattle.documents.specs.Paths.{Context}
use Rattle.documents.specs.Tree.{Forest, tree, Node, here, deeper, beside}

-- a node of the document: the path of the node, what stands under it, and its place
pub record Occurrence (d : Forest) : Type 0 where
  pub path : ℕ
  pub under : Forest
  pub place : Node path under d

-- of two places in one list of trees the second is under the first
pub data StandsUnder {x y : ℕ} {u v : Forest} : (f : Forest) → Node x u f → Node y v f → Type 0 where
  found : {rest : Forest} (m : Node y v u) → StandsUnder (tree x u rest) here (deeper m)
  lower : {p : ℕ} {kids rest : Forest} {n : Node x u kids} {m : Node y v kids} → StandsUnder kids n m
      → StandsUnder (tree p kids rest) (deeper n) (deeper m)
  further : {p : ℕ} {kids rest : Forest} {n : Node x u rest} {m : Node y v rest} → StandsUnder rest n m
      → StandsUnder (tree p kids rest) (beside n) (beside m)

-- w is a descendant node of v
pub record Descendant {d : Forest} (v w : Occurrence d) : Type 0 where
  pub under : StandsUnder d v.place w.place

-- v is in the path extent of p: the set of all nodes having p as path
pub record InExtent {d : Forest} (p : ℕ) (v : Occurrence d) : Type 0 where
  pub on : v.path ≡ p

-- v has a descendant node in the extent of p
pub record HasDescendant {d : Forest} (p : ℕ) (v : Occurrence d) : Type 0 where
  pub node : Occurrence d
  pub descendant : Descendant v node
  pub member : InExtent p node

-- definition 2.1: v is in the descendant extent with respect to p1 and p2: it is in the extent of p1 and has a
-- descendant in the extent of p2; for equal paths the descendant extent is the extent
pub data InDext {d : Forest} (p1 p2 : ℕ) (v : Occurrence d) : Type 0 where
  above : InExtent p1 v → HasDescendant p2 v → InDext p1 p2 v
  equal : p1 ≡ p2 → InExtent p1 v → InDext p1 p2 v

-- definition 2.2: at the longest common prefix p the descendant extent of p and p1 is included in that of p and p2
pub record PathImplication (parent : ℕ → ℕ) (p1 p2 : ℕ) (d : Forest) : Type 0 where
  pub included : (p : ℕ) → Context parent p1 p2 p → (v : Occurrence d) → InDext p p1 v → InDext p p2 v

-- definition 2.3: no node in the descendant extent of p and p1 is in that of p and p2
pub record PathAbsence (parent : ℕ → ℕ) (p1 p2 : ℕ) (d : Forest) : Type 0 where
  pub disjoint : (p : ℕ) → Context parent p1 p2 p → (v : Occurrence d) → InDext p p1 v → InDext p p2 v → ⊥
