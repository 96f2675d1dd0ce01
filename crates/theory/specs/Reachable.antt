-- The reachable set computed: a set of paths is a word, and a pass over climbs and rules is made until the word is unchanged.
use Rattle.std.specs.Prelude.{ℕ, zero, suc, ◌-◌, ◌^◌, ◌≤◌, Bool, true, false, ◌&&◌, ◌||◌, List, [], ◌∷◌, eqb, length}
use Rattle.files.specs.Table.{Rule}
use Rattle.files.specs.Sets.{hasb, with_path}
use Rattle.documents.specs.Paths.{Descending}
use Rattle.theory.specs.Parts.{RulesIn}

-- what a valid table of `count` paths says of its parents and rules
pub record Fits (parent : ℕ → ℕ) (rules : List Rule) (count : ℕ) : Type 0 where
  pub descending : Descending parent
  pub few : count ≤ 64
  pub few_rules : length rules ≤ 256
  pub rules_in : RulesIn count rules

-- the ways to take a step: from its start to its end, or back from its end to its start
pub data Way : Type 0 where
  onward backward : Way

-- the side of a rule from which its straight step is taken
unfoldable pub tail : Way → Rule → ℕ
tail onward ru = ru.left
tail backward ru = ru.right

-- the side of a rule to which its straight step leads
unfoldable pub tip : Way → Rule → ℕ
tip onward ru = ru.right
tip backward ru = ru.left

-- where the climb from x is taken from
unfoldable pub foot : Way → (parent : ℕ → ℕ) → ℕ → ℕ
foot onward parent x = x
foot backward parent x = parent x

-- where the climb from x leads
unfoldable pub head : Way → (parent : ℕ → ℕ) → ℕ → ℕ
head onward parent x = parent x
head backward parent x = x

-- of the `left` paths from x on, in ascending order, each whose parent is in the set w joins it
unfoldable pub join_children : (parent : ℕ → ℕ) (left x w : ℕ) → ℕ
join_children parent zero x w = w
join_children parent (suc left) x w =
    join_children parent left (suc x) (elim (hasb w (parent x)) [ true ↦ with_path w x | false ↦ w ])

-- the paths below c
unfoldable pub subtree : (parent : ℕ → ℕ) (count c : ℕ) → ℕ
subtree parent count c = join_children parent (count - suc c) (suc c) (with_path 0 c)

-- whether a rule has a step from left to right
unfoldable pub goes_along : Rule → Bool
goes_along ru = eqb ru.kind 1 || eqb ru.kind 3

-- whether a rule has a step from right to left
unfoldable pub goes_against : Rule → Bool
goes_against ru = eqb ru.kind 3

-- b joins the set if the test passes, a is in the set s from which steps are taken, and b is within the paths that walks may visit
unfoldable pub carry : (test : Bool) (within s a b joined : ℕ) → ℕ
carry test within s a b joined = elim (test && hasb s a && hasb within b) [ true ↦ with_path joined b | false ↦ joined ]

-- the paths to which one rule leads join
unfoldable pub by_rule : (way : Way) (within s : ℕ) (ru : Rule) (joined : ℕ) → ℕ
by_rule way within s ru joined =
    carry (goes_against ru) within s (tip way ru) (tail way ru) (carry (goes_along ru) within s (tail way ru) (tip way ru) joined)

-- the paths to which the rules lead join, in the order of the rules
unfoldable pub by_rules : (way : Way) (within s : ℕ) (rules : List Rule) (joined : ℕ) → ℕ
by_rules way within s [] joined = joined
by_rules way within s (ru ∷ rest) joined = by_rules way within s rest (by_rule way within s ru joined)

-- the paths to which the climbs from paths with numbers below `left` lead join, highest number first
unfoldable pub by_climbs : (way : Way) (parent : ℕ → ℕ) (within s left joined : ℕ) → ℕ
by_climbs way parent within s zero joined = joined
by_climbs way parent within s (suc x) joined =
    by_climbs way parent within s x (carry true within s (foot way parent x) (head way parent x) joined)

-- a set with all that a single step leads to, within the paths that walks may visit
unfoldable pub one_step : (way : Way) (parent : ℕ → ℕ) (rules : List Rule) (count within s : ℕ) → ℕ
one_step way parent rules count within s = by_rules way within s rules (by_climbs way parent within s count s)

-- a pass is made until the word is unchanged
unfoldable pub settle : (pass : ℕ → ℕ) (fuel s : ℕ) → ℕ
settle pass zero s = s
settle pass (suc fuel) s = let t = pass s in elim (eqb t s) [ true ↦ s | false ↦ settle pass fuel t ]

-- the set of x alone, if it is within the paths that walks may visit
unfoldable pub alone : (within x : ℕ) → ℕ
alone within x = elim (hasb within x) [ true ↦ with_path 0 x | false ↦ 0 ]

-- the paths reachable from x inside c
unfoldable pub reachable : (parent : ℕ → ℕ) (rules : List Rule) (count c x : ℕ) → ℕ
reachable parent rules count c x =
    let within = subtree parent count c in
    settle (one_step onward parent rules count within) (2 ^ 64) (alone within x)

-- whether y is reachable from x inside c
unfoldable pub reachb : (parent : ℕ → ℕ) (rules : List Rule) (count c x y : ℕ) → Bool
reachb parent rules count c x y = hasb (reachable parent rules count c x) y
