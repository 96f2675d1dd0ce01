-- The written walk as the code puts it: the step taken into a set, and numbers that are put one after the other.
use Rattle.std.specs.Prelude.{ℕ, ◌≤◌, ◌<◌, ◌≡◌, Bool, true, false, ◌&&◌, List, ◌++◌, Option, Some, None, eqb, length}
use Rattle.files.specs.Table.{Rule}
use Rattle.files.specs.Sets.{hasb}
use Rattle.theory.specs.Reachable.{goes_along, goes_against}
use Rattle.theory.specs.Search.{Move}
use Rattle.evidence.specs.declared.seek.Turn.{Turn}
use Rattle.evidence.specs.declared.seek.Turn.TheVariants.{Along, Against}

-- along if the first test passes, against if only the second does
unfoldable pub pick_turn : (along against : Bool) → Option Turn
pick_turn true against = Some Along
pick_turn false true = Some Against
pick_turn false false = None

-- how a rule leads from x into the set s, if it does
unfoldable pub turn_of : (ru : Rule) (x s : ℕ) → Option Turn
turn_of ru x s =
    pick_turn (goes_along ru && eqb ru.left x && hasb s ru.right) (goes_against ru && eqb ru.right x && hasb s ru.left)

-- a code and a path are those of the step
pub record MoveIs (m : Move) (code to : ℕ) : Type 0 where
  pub first : code ≡ m.code
  pub second : to ≡ m.to
  pub small : code ≤ 512
  pub low : to < 64

-- the numbers ns, at most `most` of them, come after those that were there
pub record Stored (ns : List ℕ) (most : ℕ) (before after : List ℕ) : Type 0 where
  pub few : length ns ≤ most
  pub numbers : after ≡ before ++ ns
