-- What stands in the way of a document that holds every required path.
use Rattle.std.specs.Prelude.{ℕ, ◌≡◌}
use mathlib.Core.List.{List, Memᴰ}
use Rattle.files.specs.Table.{Rule}
use Rattle.theory.specs.Walk.{Dead, PairBy}

-- x occurs in every document that is asked for: it is the root, or required
pub data Needed (required : List ℕ) (x : ℕ) : Type 0 where
  root : x ≡ 0 → Needed required x
  listed : Memᴰ x required → Needed required x

-- the required paths conflict: an absence rule in the root's context has its sides reachable, inside the root, from two
-- of them, or one of them is dead (the root counts as required)
pub data Conflict (parent : ℕ → ℕ) (rules : List Rule) (required : List ℕ) : Type 0 where
  pair : {first second : ℕ} (r : ℕ) → Needed required first → Needed required second → PairBy parent rules 0 first second r
      → Conflict parent rules required
  dead : {p : ℕ} → Needed required p → Dead parent rules p → Conflict parent rules required
