-- Below, and the context of two paths. `parent` gives each path's parent; the root, path 0, stands as its own.
use Rattle.std.specs.Prelude.{ℕ, zero, suc, ◌+◌, ◌<◌, ◌≡◌, Bool, true, false, eqb, ltb}

-- x is below c: c is x, or x's parent is below c. (c is then a prefix of x.)
pub data Below (parent : ℕ → ℕ) (c : ℕ) : ℕ → Type 0 where
  same : {x : ℕ} → c ≡ x → Below parent c x
  up : {x : ℕ} → Below parent c (parent x) → Below parent c x

-- x is strictly below c
pub record StrictlyBelow (parent : ℕ → ℕ) (c x : ℕ) : Type 0 where
  pub below : Below parent c x
  pub other : c ≡ x → ⊥

-- c is the context of p and q: their longest common prefix
pub record Context (parent : ℕ → ℕ) (p q c : ℕ) : Type 0 where
  pub left : Below parent c p
  pub right : Below parent c q
  pub longest : (d : ℕ) → Below parent d p → Below parent d q → Below parent d c

-- what a valid table says of parents: the root stands as its own, every other path's parent has a smaller number
pub record Descending (parent : ℕ → ℕ) : Type 0 where
  pub root : parent 0 ≡ 0
  pub smaller : (x : ℕ) → 0 < x → parent x < x

-- x is below c, decided: c is x, or x's parent is below c, climbing at most `fuel` times
unfoldable pub climbs_to : (parent : ℕ → ℕ) (c fuel x : ℕ) → Bool
climbs_to parent c zero x = eqb c x
climbs_to parent c (suc fuel) x = elim (eqb c x) [ true ↦ true | false ↦ climbs_to parent c fuel (parent x) ]

-- x is below c, decided: no path climbs more often than its number says
unfoldable pub belowb : (parent : ℕ → ℕ) (c x : ℕ) → Bool
belowb parent c x = climbs_to parent c x x

-- the context of two paths: of two unequal paths the greater number climbs, at most `fuel` times
unfoldable pub meet : (parent : ℕ → ℕ) (fuel p q : ℕ) → ℕ
meet parent zero p q = p
meet parent (suc fuel) p q =
    elim (eqb p q) [
      | true ↦ p
      | false ↦ elim (ltb p q) [ true ↦ meet parent fuel p (parent q) | false ↦ meet parent fuel (parent p) q ]
    ]

-- the context of two paths, computed
unfoldable pub context_of : (parent : ℕ → ℕ) (p q : ℕ) → ℕ
context_of parent p q = meet parent (p + q) p q

-- the path at or above x whose parent is c, climbing at most `fuel` times
unfoldable pub climb_under : (parent : ℕ → ℕ) (c fuel x : ℕ) → ℕ
climb_under parent c zero x = x
climb_under parent c (suc fuel) x = elim (eqb (parent x) c) [ true ↦ x | false ↦ climb_under parent c fuel (parent x) ]

-- c's child path towards g, for a path g strictly below c
unfoldable pub towards : (parent : ℕ → ℕ) (c g : ℕ) → ℕ
towards parent c g = climb_under parent c g g

-- how often x climbs to the root, and one, climbing at most `fuel` times
unfoldable pub climbs : (parent : ℕ → ℕ) (fuel x : ℕ) → ℕ
climbs parent zero x = 1
climbs parent (suc fuel) x = elim (eqb x 0) [ true ↦ 1 | false ↦ suc (climbs parent fuel (parent x)) ]

-- the depth of a path (`Depth` of `files`), computed by climbing
unfoldable pub depth_of : (parent : ℕ → ℕ) (x : ℕ) → ℕ
depth_of parent x = climbs parent x x
