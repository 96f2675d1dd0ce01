-- Which children a part of a document has, in the words of 01: a child for each goal, then, highest number first, one for each
-- path that the part reaches and no child chosen so far covers.
use Rattle.std.specs.Prelude.{ℕ, ◌<◌, ◌≡◌, ◌↔◌, ◌⊎◌}
use mathlib.Core.List.{List, [], ◌∷◌, Memᴰ}
use Rattle.files.specs.Table.{Rule}
use Rattle.documents.specs.Paths.{Below}
use Rattle.theory.specs.Parts.{Part, ReachAny}

-- k is c's child path towards x: its parent is c, and x is below it
pub record Towards (parent : ℕ → ℕ) (c x k : ℕ) : Type 0 where
  pub inner : 0 < k
  pub under : parent k ≡ c
  pub onward : Below parent k x

-- j is the child for x of a part on c: on c's child path towards x, with goal x
pub record ChildFor (parent : ℕ → ℕ) (c x : ℕ) (j : Part) : Type 0 where
  pub path : Towards parent c x j.path
  pub goal : j.goals ≡ x ∷ []

-- c is the context of all goals: their longest common prefix
pub record GoalsContext (parent : ℕ → ℕ) (goals : List ℕ) (c : ℕ) : Type 0 where
  pub prefix : (g : ℕ) → Memᴰ g goals → Below parent c g
  pub longest : (d : ℕ) → ((g : ℕ) → Memᴰ g goals → Below parent d g) → Below parent d c

-- the goals' own children of a part: where it is on the goals' context each goal other than its path has its own, above it one
-- child on the way there has all the goals
pub data OwnChild (parent : ℕ → ℕ) (a j : Part) : Type 0 where
  each : GoalsContext parent a.goals a.path → (g : ℕ) → Memᴰ g a.goals → (a.path ≡ g → ⊥)
      → ChildFor parent a.path g j → OwnChild parent a j
  all : (top : ℕ) → GoalsContext parent a.goals top → (a.path ≡ top → ⊥) → Towards parent a.path top j.path
      → j.goals ≡ a.goals → OwnChild parent a j

-- a part covers what is reachable from any of its goals inside its path
abbrev pub Covers : (parent : ℕ → ℕ) (rules : List Rule) (j : Part) (x : ℕ) → Type 0
Covers parent rules j x = ReachAny parent rules j.path j.goals x

-- x gets a child of its own: it is strictly below the part's path, the part reaches it, and no child chosen before it covers it,
-- neither a goal's own nor that of a higher path
pub record GetsChild (parent : ℕ → ℕ) (rules : List Rule) (a : Part) (chosen : List ℕ) (x : ℕ) : Type 0 where
  pub other : a.path ≡ x → ⊥
  pub reached : Covers parent rules a x
  pub own : (j : Part) → OwnChild parent a j → Covers parent rules j x → ⊥
  pub higher : (y : ℕ) → Memᴰ y chosen → x < y → (j : Part) → ChildFor parent a.path y j → Covers parent rules j x → ⊥

-- the children of a part: the goals' own, and that of each path that gets one
pub record ChildrenOf (parent : ℕ → ℕ) (rules : List Rule) (a : Part) (kids : List Part) : Type 0 where
  pub chosen : List ℕ
  pub gets : (x : ℕ) → Memᴰ x chosen ↔ GetsChild parent rules a chosen x
  pub are : (j : Part) → Memᴰ j kids
      ↔ (OwnChild parent a j ⊎ ((x : ℕ) × Memᴰ x chosen × ChildFor parent a.path x j))
