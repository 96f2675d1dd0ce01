-- The laws of trees: nodes and holding, what stands under a node, and the nodes between a node and what it holds.
use Prim.Native.Nat.{ℕ, ◌<◌}
use mathlib.Core.Path.{◌≡◌, refl, sym, subst}
use mathlib.Core.Logic.{◌⊎◌, inl, inr}
use native.Mathlib.Omega.{arith}
use Rattle.documents.specs.Paths.{Below, StrictlyBelow, Descending}
use Rattle.documents.specs.Tree.{
  nothing,
  Forest,
  none,
  tree,
  Node,
  here,
  deeper,
  beside,
  Holds,
  NodeHolds,
  itself,
  descendant,
  Under,
  child,
  Document,
  document,
}
use Rattle.documents.proofs.Paths.{
  below_step,
  below_comparable,
  below_antisym,
  below_strictly,
  strictly_trans,
  strictly_lt,
  parent_strictly,
  below_root,
}

-- a forest holds the path of each of its nodes
pub node_holds : {x : ℕ} {u f : Forest} → Node x u f → Holds f x
unfolding Holds
node_holds here = inl refl
node_holds (deeper n) = inr (inl (node_holds n))
node_holds (beside n) = inr (inr (node_holds n))

-- a held path has a node on it
pub holds_node : (f : Forest) (x : ℕ) → Holds f x → (u : Forest) × Node x u f
unfolding Holds
holds_node none x h = absurd h
holds_node (tree p kids rest) x (inl e) = (kids, subst (λ (z : ℕ). Node x kids (tree z kids rest)) (sym e) here)
holds_node (tree p kids rest) x (inr (inl h)) = let n = holds_node kids x h in (n.0, deeper n.1)
holds_node (tree p kids rest) x (inr (inr h)) = let n = holds_node rest x h in (n.0, beside n.1)

-- a node under a node of the forest is a node of the forest
pub node_trans : {x y : ℕ} {u v f : Forest} → Node x u f → Node y v u → Node y v f
node_trans here m = deeper m
node_trans (deeper n) m = deeper (node_trans n m)
node_trans (beside n) m = beside (node_trans n m)

-- a node of the tree that a node makes is a node of the forest
pub node_within : {x y : ℕ} {u v f : Forest} → Node x u f → Node y v (tree x u none) → Node y v f
node_within {y = y} {u = u} {v = v} {f = f} n (beside x5) = elim x5 [ ]
node_within n here = n
node_within n (deeper m) = node_trans n m

-- what a node holds, the tree that it makes holds
pub node_holds_tree : {x y : ℕ} {u : Forest} → NodeHolds x u y → Holds (tree x u none) y
unfolding Holds
node_holds_tree (itself e) = inl e
node_holds_tree (descendant h) = inr (inl h)

-- and the other way round
pub tree_node_holds : {x y : ℕ} {u : Forest} → Holds (tree x u none) y → NodeHolds x u y
unfolding Holds
tree_node_holds (inl e) = itself e
tree_node_holds (inr (inl h)) = descendant h
tree_node_holds (inr (inr h)) = absurd h

-- a node holds the path of each node in the tree that it makes
pub node_node_holds : {x y : ℕ} {u v : Forest} → Node y v (tree x u none) → NodeHolds x u y
node_node_holds n = tree_node_holds (node_holds n)

-- what a node holds, its forest holds
pub node_holds_forest : {x y : ℕ} {u f : Forest} → Node x u f → NodeHolds x u y → Holds f y
node_holds_forest {y = y} {f = f} n (itself e) = subst (λ (z : ℕ). Holds f z) e (node_holds n)
node_holds_forest {y = y} {u = u} n (descendant h) = let m = holds_node u y h in node_holds (node_trans n m.1)

-- what a node under a node holds, the upper node holds
pub node_holds_trans : {x y z : ℕ} {u v : Forest} → Node y v (tree x u none) → NodeHolds y v z → NodeHolds x u z
node_holds_trans n h = tree_node_holds (node_holds_forest n h)

-- where a node under path p stands: strictly below p, on a path of the table, with what may stand under it
pub record Placed (parent : ℕ → ℕ) (count p x : ℕ) (u : Forest) : Type 0 where
  pub below : StrictlyBelow parent p x
  pub small : x < count
  pub under : Under parent count x u

-- a node of the forest on path m, with the node on x over `v` in its tree
pub record Through (f : Forest) (m x : ℕ) (v : Forest) : Type 0 where
  pub kids : Forest
  pub node : Node m kids f
  pub inside : Node x v (tree m kids none)

-- a node of the forest on path m that holds x
pub record Holding (f : Forest) (m x : ℕ) : Type 0 where
  pub kids : Forest
  pub node : Node m kids f
  pub holds : NodeHolds m kids x

module _ {parent : ℕ → ℕ} (desc : Descending parent) where
  child_strictly : {p k : ℕ} → 0 < k → parent k ≡ p → StrictlyBelow parent p k
  child_strictly {k = k} z e = subst (λ (q : ℕ). StrictlyBelow parent q k) e (parent_strictly desc k z)

  -- each node of what stands under p is placed below p
  pub under_placed : {count p x : ℕ} {u f : Forest} → Under parent count p f → Node x u f → Placed parent count p x u
  under_placed {count = count} {u = u} (nothing {p = p}) x7 = elim x7 [ ]
  under_placed (child z s e k r) here = record { below = child_strictly z e; small = s; under = k }
  under_placed (child z s e k r) (deeper n) =
      let q = under_placed k n in
      record { below = strictly_trans desc (child_strictly z e) q.below.below; small = q.small; under = q.under }
  under_placed (child z s e k r) (beside n) = under_placed r n

  -- a prefix of a child of p is the child or is above p
  child_prefix : {p k m : ℕ} → parent k ≡ p → StrictlyBelow parent p m → Below parent m k → m ≡ k
  child_prefix {p} {k} {m} e s h = pick (below_step h)
    where
      pick : (m ≡ k) ⊎ Below parent m (parent k) → m ≡ k
      pick (inl q) = q
      pick (inr b) = absurd (s.other (below_antisym desc s.below (subst (λ (q : ℕ). Below parent m q) e b)))

  among : {count p m x : ℕ} {v f : Forest} → Under parent count p f → Node x v f → StrictlyBelow parent p m → Below parent m x
      → Through f m x v
  among {count = count} {m = m} {x = x} {v = v} (nothing {p = p}) x13 t b = elim x13 [ ]
  among {m = m} {x} {v} (child {rest = rest} z s e d r) here t b =
      let w : m ≡ x = child_prefix e t b in
      record {
        kids = v;
        node = subst (λ (y : ℕ). Node m v (tree y v rest)) w here;
        inside = subst (λ (y : ℕ). Node x v (tree y v none)) (sym w) here;
      }
  among {m = m} {x} {v} (child {x = k} {kids = kids} {rest = rest} z s e d r) (deeper n) t b =
      pick (below_comparable (under_placed d n).below.below b) (λ w. among d n w b)
    where
      onto : m ≡ k → Through (tree k kids rest) m x v
      onto w = record { kids = kids; node = subst (λ (y : ℕ). Node m kids (tree y kids rest)) w here; inside = deeper n }

      split : (k ≡ m) ⊎ StrictlyBelow parent k m → (StrictlyBelow parent k m → Through kids m x v) → Through (tree k kids rest) m x v
      split (inl w) again = onto (sym w)
      split (inr w) again = let a = again w in record { kids = a.kids; node = deeper a.node; inside = a.inside }

      pick : Below parent k m ⊎ Below parent m k → (StrictlyBelow parent k m → Through kids m x v) → Through (tree k kids rest) m x v
      pick (inl w) again = split (below_strictly desc w) again
      pick (inr w) again = onto (child_prefix e t w)
  among (child z s e d r) (beside n) t b =
      let a = among r n t b in record { kids = a.kids; node = beside a.node; inside = a.inside }

  -- a node in the tree of a node on c stands in the tree of a node on every path between
  pub through : {count c m x : ℕ} {u v : Forest} → Under parent count c u → Node x v (tree c u none) → Below parent c m
      → Below parent m x → Through (tree c u none) m x v
  through {count = count} {c = c} {m = m} {x = x} {u = u} {v = v} d (beside x7) l b = elim x7 [ ]
  through {c = c} {m} {u = u} d here l b =
      let w : c ≡ m = below_antisym desc l b in
      record {
        kids = u;
        node = subst (λ (y : ℕ). Node y u (tree c u none)) w here;
        inside = subst (λ (y : ℕ). Node c u (tree y u none)) w here;
      }
  through {c = c} {m} {x} {u} {v} d (deeper n) l b = pick (below_strictly desc l)
    where
      pick : (c ≡ m) ⊎ StrictlyBelow parent c m → Through (tree c u none) m x v
      pick (inl w) = record { kids = u; node = subst (λ (y : ℕ). Node y u (tree c u none)) w here; inside = deeper n }
      pick (inr s) = let a = among d n s b in record { kids = a.kids; node = deeper a.node; inside = a.inside }

  -- between a node on c that holds x and the held node there is a node on every path between
  pub between : {count c m x : ℕ} {u : Forest} → Under parent count c u → NodeHolds c u x → Below parent c m → Below parent m x
      → Holding (tree c u none) m x
  between {c = c} {x = x} {u} d h l b =
      let n = holds_node (tree c u none) x (node_holds_tree h) in
      let t = through d n.1 l b in
      record { kids = t.kids; node = t.node; holds = node_node_holds t.inside }

  -- what may stand under a node of a document, and its path in the table
  pub document_under : {count x : ℕ} {u d : Forest} → Document parent count d → Node x u d → Under parent count x u
  document_under {count = count} {u = u} (document {kids = kids} k) (beside x8) = elim x8 [ ]
  document_under (document k) here = k
  document_under (document k) (deeper n) = (under_placed k n).under

  -- a document's node on the root holds everything that the document holds
  pub document_root : {count y : ℕ} {u d : Forest} → Document parent count d → Node 0 u d → Holds d y → NodeHolds 0 u y
  document_root {count = count} {y = y} {u = u} (document {kids = kids} k) (beside x10) h = elim x10 [ ]
  document_root (document k) here h = tree_node_holds h
  document_root (document k) (deeper n) h = absurd (omega (arith, strictly_lt desc (under_placed k n).below))

  -- a document has a node on the root
  pub document_node : {count : ℕ} {d : Forest} → Document parent count d → (u : Forest) × Node 0 u d
  document_node (document {kids = kids} k) = (kids, here)

  -- a node of a document stands in the tree of a node on every prefix of its path
  pub document_through : {count m x : ℕ} {v d : Forest} → Document parent count d → Node x v d → Below parent m x → Through d m x v
  document_through {m = m} (document k) n b = through k n (below_root desc m) b

  -- a document that holds x has a node that holds x on every prefix of x
  pub document_between : {count m x : ℕ} {d : Forest} → Document parent count d → Holds d x → Below parent m x → Holding d m x
  document_between {m = m} (document k) h b = between k (tree_node_holds h) (below_root desc m) b
