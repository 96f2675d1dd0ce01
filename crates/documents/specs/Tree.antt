-- Documents as finite trees, and what a node holds.
use Rattle.std.specs.Prelude.{ℕ, ◌<◌, ◌≡◌, ◌⊎◌}

-- a list of trees: nothing, or a node on a path with the trees under it, and the rest of the list
pub data Forest : Type 0 where
  none : Forest
  tree : ℕ → Forest → Forest → Forest

-- a node on path x, with the trees `under` under it, stands somewhere in the forest
pub data Node (x : ℕ) (under : Forest) : Forest → Type 0 where
  here : {rest : Forest} → Node x under (tree x under rest)
  deeper : {p : ℕ} {kids rest : Forest} → Node x under kids → Node x under (tree p kids rest)
  beside : {p : ℕ} {kids rest : Forest} → Node x under rest → Node x under (tree p kids rest)

-- some node of the forest is on path y
unfoldable pub Holds : Forest → ℕ → Type 0
Holds none y = ⊥
Holds (tree p kids rest) y = (p ≡ y) ⊎ (Holds kids y ⊎ Holds rest y)

-- the node on path x with the trees `under` under it holds y: it, or a descendant, is on path y
pub data NodeHolds (x : ℕ) (under : Forest) (y : ℕ) : Type 0 where
  itself : x ≡ y → NodeHolds x under y
  descendant : Holds under y → NodeHolds x under y

-- trees that may stand under a node on path p, in a table of `count` paths: each is on a path of the table other than
-- the root whose parent is p, and so on below
pub data Under (parent : ℕ → ℕ) (count : ℕ) : ℕ → Forest → Type 0 where
  nothing : {p : ℕ} → Under parent count p none
  child : {p x : ℕ} {kids rest : Forest} → 0 < x → x < count → parent x ≡ p
      → Under parent count x kids → Under parent count p rest → Under parent count p (tree x kids rest)

-- a document of the table: one root node, on path 0, and what may stand under it
pub data Document (parent : ℕ → ℕ) (count : ℕ) : Forest → Type 0 where
  document : {kids : Forest} → Under parent count 0 kids → Document parent count (tree 0 kids none)
