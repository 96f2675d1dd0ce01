-- Dead paths, pairs and the root pair, computed from reachable sets, and what it means that a choice is the least.
use Rattle.std.specs.Prelude.{ℕ, ◌≤◌, ◌⊎◌, Bool, true, false, ◌&&◌, ◌||◌, List, [], ◌∷◌, eqb, ltb, length, get_or}
use Rattle.files.specs.Table.{Rule}
use Rattle.files.specs.Sets.{Has, hasb, with_path, common, lowest}
use Rattle.documents.specs.Paths.{belowb, context_of}
use Rattle.theory.specs.Walk.{Dead, DeadBy, PairBy}
use Rattle.theory.specs.Reachable.{reachable, reachb}
use Rattle.theory.specs.Least.{least, passing, some_in}

-- no rule: what stands past the end of the rules
abbrev pub no_rule : Rule
no_rule = record { kind = 0; left = 0; right = 0 }

-- rule number r
unfoldable pub rule_at : List Rule → ℕ → Rule
rule_at rules r = get_or rules r no_rule

-- y and rule number r show that p is dead: least y, then least rule
pub record LeastDead (parent : ℕ → ℕ) (rules : List Rule) (p y r : ℕ) : Type 0 where
  pub by : DeadBy parent rules p y r
  pub least_path : (z s : ℕ) → DeadBy parent rules p z s → y ≤ z
  pub least_rule : (s : ℕ) → DeadBy parent rules p y s → r ≤ s

-- rule number r excludes p and q below c with its sides as they stand (0), else crossed (1)
pub data Sided (parent : ℕ → ℕ) (rules : List Rule) (c p q r : ℕ) : ℕ → Type 0 where
  straight : PairBy parent rules c p q r → Sided parent rules c p q r 0
  crossed : (PairBy parent rules c p q r → ⊥) → PairBy parent rules c q p r → Sided parent rules c p q r 1

-- rule number r and its side exclude p and q below c: least rule, side 0 preferred
pub record LeastPair (parent : ℕ → ℕ) (rules : List Rule) (c p q r side : ℕ) : Type 0 where
  pub by : Sided parent rules c p q r side
  pub least_rule : (s : ℕ) → PairBy parent rules c p q s ⊎ PairBy parent rules c q p s → r ≤ s

-- rule number r, an absence whose context is the root, excludes x and y, both asked for
pub record RootPair (parent : ℕ → ℕ) (rules : List Rule) (asked x y r : ℕ) : Type 0 where
  pub first : Has asked x
  pub second : Has asked y
  pub by : PairBy parent rules 0 x y r

-- least rule, then the lowest path that reaches its left side and the lowest that reaches its right side
pub record LeastRootPair (parent : ℕ → ℕ) (rules : List Rule) (asked x y r : ℕ) : Type 0 where
  pub by : RootPair parent rules asked x y r
  pub least_rule : (u v s : ℕ) → RootPair parent rules asked u v s → r ≤ s
  pub least_first : (u v : ℕ) → RootPair parent rules asked u v r → x ≤ u
  pub least_second : (u v : ℕ) → RootPair parent rules asked u v r → y ≤ v

-- x is the lowest dead path asked for
pub record LowestDead (parent : ℕ → ℕ) (rules : List Rule) (asked x : ℕ) : Type 0 where
  pub member : Has asked x
  pub dead : Dead parent rules x
  pub lowest : (z : ℕ) → Has asked z → Dead parent rules z → x ≤ z

-- the required paths, the root counting as one, as a set
unfoldable pub asked_in : List ℕ → ℕ
asked_in [] = with_path 0 0
asked_in (x ∷ rest) = with_path (asked_in rest) x

module _ (parent : ℕ → ℕ) (rules : List Rule) (count : ℕ) where
  -- both sides of a rule are reachable from y inside the rule's context
  unfoldable pub both_from : (ru : Rule) (y : ℕ) → Bool
  both_from ru y =
      let s = reachable parent rules count (context_of parent ru.left ru.right) y in
      hasb s ru.left && hasb s ru.right

  -- rule number r is an absence whose sides are both reachable from y inside its context, a prefix of y
  unfoldable pub clashb : (y r : ℕ) → Bool
  clashb y r = let ru = rule_at rules r in eqb ru.kind 2 && both_from ru y

  -- the least rule that clashes at y; the number of rules if none does
  unfoldable pub clash_rule : (y : ℕ) → ℕ
  clash_rule y = least (clashb y) (length rules)

  -- some rule clashes at y
  unfoldable pub clashes : (y : ℕ) → Bool
  clashes y = ltb (clash_rule y) (length rules)

  -- the paths at which some rule clashes
  unfoldable pub clashing : ℕ
  clashing = passing clashes count

  -- the paths reachable from p inside the root at which some rule clashes
  unfoldable pub clashes_from : (p : ℕ) → ℕ
  clashes_from p = common (reachable parent rules count 0 p) clashing

  -- whether p is dead
  unfoldable pub is_dead : (p : ℕ) → Bool
  is_dead p = some_in (clashes_from p)

  -- the least path that shows p dead, if p is
  unfoldable pub dead_path : (p : ℕ) → ℕ
  dead_path p = lowest (clashes_from p)

  -- the least rule that clashes there
  unfoldable pub dead_rule : (p : ℕ) → ℕ
  dead_rule p = clash_rule (dead_path p)

  -- the dead paths
  unfoldable pub dead_paths : ℕ
  dead_paths = passing is_dead count

  -- the left side of a rule is reachable from p, and the right side from q, inside the rule's context, a prefix of c
  unfoldable pub sides_from : (ru : Rule) (c p q : ℕ) → Bool
  sides_from ru c p q =
      let a = context_of parent ru.left ru.right in
      belowb parent a c && (reachb parent rules count a p ru.left && reachb parent rules count a q ru.right)

  -- rule number r excludes p and q below c with its sides as they stand
  unfoldable pub pairb : (c p q r : ℕ) → Bool
  pairb c p q r = let ru = rule_at rules r in eqb ru.kind 2 && sides_from ru c p q

  -- the least rule that excludes p and q below c, straight or crossed; the number of rules if none does
  unfoldable pub pair_rule : (c p q : ℕ) → ℕ
  pair_rule c p q = least (λ r. pairb c p q r || pairb c q p r) (length rules)

  -- whether some rule excludes p and q below c
  unfoldable pub is_pair : (c p q : ℕ) → Bool
  is_pair c p q = ltb (pair_rule c p q) (length rules)

  -- the side by which rule number r excludes p and q: 0 if its sides as they stand do
  unfoldable pub pair_side : (c p q r : ℕ) → ℕ
  pair_side c p q r = elim (pairb c p q r) [ true ↦ 0 | false ↦ 1 ]

  -- the lowest path asked for from which t is reachable inside the root; the number of paths if there is none
  unfoldable pub reacher : (asked t : ℕ) → ℕ
  reacher asked t = least (λ x. hasb asked x && reachb parent rules count 0 x t) count

  -- the context of a rule is the root, and both its sides are reachable inside it from paths asked for
  unfoldable pub root_sides : (asked : ℕ) (ru : Rule) → Bool
  root_sides asked ru =
      eqb (context_of parent ru.left ru.right) 0
      && (ltb (reacher asked ru.left) count && ltb (reacher asked ru.right) count)

  -- rule number r is an absence at the root that excludes two paths asked for
  unfoldable pub rootb : (asked r : ℕ) → Bool
  rootb asked r = let ru = rule_at rules r in eqb ru.kind 2 && root_sides asked ru

  -- the least such rule; the number of rules if there is none
  unfoldable pub root_rule : (asked : ℕ) → ℕ
  root_rule asked = least (rootb asked) (length rules)

  -- whether there is one
  unfoldable pub is_root_pair : (asked : ℕ) → Bool
  is_root_pair asked = ltb (root_rule asked) (length rules)

  -- the lowest path asked for that reaches the left side of rule number r
  unfoldable pub root_first : (asked r : ℕ) → ℕ
  root_first asked r = reacher asked (rule_at rules r).left

  -- the lowest path asked for that reaches the right side of rule number r
  unfoldable pub root_second : (asked r : ℕ) → ℕ
  root_second asked r = reacher asked (rule_at rules r).right

  -- whether a path asked for is dead
  unfoldable pub is_asked_dead : (asked : ℕ) → Bool
  is_asked_dead asked = some_in (common dead_paths asked)

  -- the lowest dead path asked for, if there is one
  unfoldable pub dead_asked : (asked : ℕ) → ℕ
  dead_asked asked = lowest (common dead_paths asked)
