-- The document handed back, computed from words: reachable sets R(c, x), a part's children as a word of goals, the parts
-- present as a word of goals per path, and a part's number as a count of what stands before it.
use Rattle.std.specs.Prelude.{ℕ, zero, suc, ◌+◌, ◌-◌, ◌^◌, ◌<◌, ◌↔◌, Bool, true, false, not, ◌&&◌, List, [], ◌∷◌, ◌++◌, map, eqb, ltb, get_or}
use Rattle.std.specs.Int.Count.{count_leading_zeros}
use Rattle.files.specs.Table.{Rule}
use Rattle.files.specs.Sets.{
  bit,
  Has,
  hasb,
  with_path,
  without_path,
  union,
  common,
  difference,
  lowest,
  without_lowest,
  size_below,
  size,
  members,
}
use Rattle.documents.specs.Paths.{Below, context_of, towards, depth_of}
use Rattle.documents.specs.PartList.{Entry, document_numbers}
use Rattle.theory.specs.Walk.{Reach}
use Rattle.theory.specs.Reachable.{subtree}
use Rattle.theory.specs.Least.{passing, some_in}
use Rattle.theory.specs.Evidence.{impliesb}

-- R gives, for a path c and a path x of the table below it, the set of the paths reachable from x inside c
pub record ReachWords (parent : ℕ → ℕ) (rules : List Rule) (count : ℕ) (R : ℕ → ℕ → ℕ) : Type 0 where
  pub small : (c x : ℕ) → Below parent c x → x < count → R c x < 2 ^ 64
  pub exactly : (c x y : ℕ) → Below parent c x → x < count → Has (R c x) y ↔ Reach parent rules c x y

-- whether the sets of R say that y is reachable from x inside c
abbrev pub word_reach : (R : ℕ → ℕ → ℕ) (c x y : ℕ) → Bool
word_reach R c x y = hasb (R c x) y

-- the greatest path of a set that is not empty
unfoldable pub highest : ℕ → ℕ
highest w = 63 - count_leading_zeros 64 w

-- what f gives for the members of the set w joins the set s, lowest member first
unfoldable pub gather : (f : ℕ → ℕ) (fuel w s : ℕ) → ℕ
gather f zero w s = s
gather f (suc fuel) w s =
    elim (eqb w 0) [ true ↦ s | false ↦ gather f fuel (without_lowest w) (union s (f (lowest w))) ]

-- what f gives for the members of a list, one after the other
unfoldable pub each_of : {A B : Type 0} (f : A → List B) → List A → List B
each_of f [] = []
each_of f (a ∷ rest) = f a ++ each_of f rest

-- a list of one member where the test passes, else of none
unfoldable pub only_if : {A : Type 0} → Bool → A → List A
only_if true a = a ∷ []
only_if false a = []

-- the paths at or above x, climbing at most `fuel` times, join the set w
unfoldable pub climb_all : (parent : ℕ → ℕ) (fuel x w : ℕ) → ℕ
climb_all parent zero x w = with_path w x
climb_all parent (suc fuel) x w = elim (eqb x 0) [ true ↦ with_path w 0 | false ↦ climb_all parent fuel (parent x) (with_path w x) ]

-- what a document begins with: the goals of part 0 as a set, and their context
pub record Start : Type 0 where
  pub goals : ℕ
  pub top : ℕ

-- for an implication's no: goal p
abbrev pub start_implication : (p : ℕ) → Start
start_implication p = record { goals = with_path 0 p; top = p }

-- for a co-occurrence's no: the first failing direction
unfoldable pub start_both : (parent : ℕ → ℕ) (rules : List Rule) (count p q : ℕ) → Start
start_both parent rules count p q = elim (impliesb parent rules count p q) [ true ↦ start_implication q | false ↦ start_implication p ]

-- for an absence's no: both goals; equal goals count as one
abbrev pub start_absence : (parent : ℕ → ℕ) (p q : ℕ) → Start
start_absence parent p q = record { goals = with_path (with_path 0 q) p; top = context_of parent p q }

-- for consistency: goals 0 and every required path
abbrev pub start_consistency : (asked : ℕ) → Start
start_consistency asked = record { goals = asked; top = 0 }

-- for a question's no: kind 1 implication, 2 absence, 3 co-occurrence of p and q
unfoldable pub start_no : (parent : ℕ → ℕ) (rules : List Rule) (count kind p q : ℕ) → Start
start_no parent rules count kind p q =
    elim (eqb kind 1) [
      | true ↦ start_implication p
      | false ↦ elim (eqb kind 2) [ true ↦ start_absence parent p q | false ↦ start_both parent rules count p q ]
    ]

-- whether there are several goals
unfoldable pub severalb : (goals : ℕ) → Bool
severalb goals = some_in (without_lowest goals)

module _ (parent : ℕ → ℕ) (count : ℕ) (R : ℕ → ℕ → ℕ) where
  -- what is reachable inside c from any of the goals
  unfoldable pub reach_all : (c goals : ℕ) → ℕ
  reach_all c goals = gather (λ g. R c g) 64 goals 0

  -- what the children on c's child paths towards the goals cover, each with its goal
  unfoldable pub cover_each : (c goals : ℕ) → ℕ
  cover_each c goals = gather (λ g. R (towards parent c g) g) 64 goals 0

  -- the highest path of `left`, what no child covers yet, gets a child; then what that covers is left no more
  unfoldable pub fill_word : (c fuel left chosen : ℕ) → ℕ
  fill_word c zero left chosen = chosen
  fill_word c (suc fuel) left chosen =
      elim (eqb left 0) [
        | true ↦ chosen
        | false ↦ fill_word c fuel (difference left (R (towards parent c (highest left)) (highest left))) (with_path chosen (highest left))
      ]

  -- the goals of the one-goal children of a part on c; `handed` says that one child more has all the goals, on the way to `top`
  unfoldable pub kid_word : (c goals top : ℕ) (handed : Bool) → ℕ
  kid_word c goals top handed =
      let reached = without_path (reach_all c goals) c in
      let own = without_path goals c in
      elim handed [
        | true ↦ fill_word c 64 (difference reached (reach_all (towards parent c top) goals)) 0
        | false ↦ fill_word c 64 (difference reached (cover_each c own)) own
      ]

  -- the children of a part with the one goal g
  unfoldable pub one_kids : (c g : ℕ) → ℕ
  one_kids c g = kid_word c (with_path 0 g) g false

  module _ (start : Start) where
    -- the paths that carry all goals in one part: from the root to their context, if the goals are several
    unfoldable pub chain : ℕ
    chain = elim (severalb start.goals) [ true ↦ climb_all parent start.top start.top 0 | false ↦ 0 ]

    -- the one-goal children of the part on c that has all goals
    unfoldable pub all_kids : (c : ℕ) → ℕ
    all_kids c = kid_word c start.goals start.top (not (eqb c start.top))

    -- the goals of all one-goal children of the parts on c: of the one-goal parts with goals `here`, and of the part with all
    unfoldable pub kids_at : (c here : ℕ) → ℕ
    kids_at c here = gather (one_kids c) 64 here (elim (hasb chain c) [ true ↦ all_kids c | false ↦ 0 ])

    -- the goals of the one-goal parts on the root
    unfoldable pub root_goals : ℕ
    root_goals = elim (severalb start.goals) [ true ↦ 0 | false ↦ start.goals ]

    -- the goals of the one-goal parts on c, where `named` has for each path before c the goals of the children of its parts
    unfoldable pub goals_on : (c : ℕ) (named : List ℕ) → ℕ
    goals_on c named = elim (eqb c 0) [ true ↦ root_goals | false ↦ common (get_or named (parent c) 0) (subtree parent count c) ]

    -- the goals of the one-goal parts on each of the `left` paths from c on
    unfoldable pub rows_from : (left c : ℕ) (named : List ℕ) → List ℕ
    rows_from zero c named = []
    rows_from (suc left) c named =
        let here = goals_on c named in
        here ∷ rows_from left (suc c) (named ++ (kids_at c here ∷ []))

    -- the goals of the one-goal parts on every path
    unfoldable pub goal_rows : List ℕ
    goal_rows = rows_from count 0 []

-- the paths of a depth
unfoldable pub layer : (parent : ℕ → ℕ) (count depth : ℕ) → ℕ
layer parent count depth = passing (λ x. eqb (depth_of parent x) depth) count

-- the paths of `left` depths from a depth on: by depth, then number
unfoldable pub layers_from : (parent : ℕ → ℕ) (count left depth : ℕ) → List ℕ
layers_from parent count zero depth = []
layers_from parent count (suc left) depth = members (layer parent count depth) ++ layers_from parent count left (suc depth)

-- the paths in the order of the parts: by depth, then number
unfoldable pub path_order : (parent : ℕ → ℕ) (count : ℕ) → List ℕ
path_order parent count = layers_from parent count 8 1

-- the child paths of c
unfoldable pub child_paths : (parent : ℕ → ℕ) (count c : ℕ) → ℕ
child_paths parent count c = passing (λ x. ltb 0 x && eqb (parent x) c) count

module _ (chain : ℕ) (rows : List ℕ) where
  -- how many parts are on path c
  unfoldable pub parts_on : (c : ℕ) → ℕ
  parts_on c = bit chain c + size (get_or rows c 0)

  -- the number of the first part on path c: how many parts are on the paths before it
  unfoldable pub place_of : (order : List ℕ) (c : ℕ) → ℕ
  place_of [] c = 0
  place_of (d ∷ rest) c = elim (eqb d c) [ true ↦ 0 | false ↦ parts_on d + place_of rest c ]

  -- the number of the part on path c with the one goal g
  unfoldable pub number_of : (order : List ℕ) (c g : ℕ) → ℕ
  number_of order c g = place_of order c + (bit chain c + size_below (get_or rows c 0) g)

module _ (parent : ℕ → ℕ) (count : ℕ) (R : ℕ → ℕ → ℕ) (start : Start) (chain : ℕ) (rows order : List ℕ) where
  -- the numbers of a part's children on path k: first, if `handed` says so, the one with all goals; then those with a goal of w
  unfoldable pub kids_on : (handed : Bool) (w k : ℕ) → List ℕ
  kids_on handed w k =
      only_if (handed && hasb chain k) (place_of chain rows order k)
      ++ map (number_of chain rows order k) (members (common w (subtree parent count k)))

  -- a part on path c, whose one-goal children's goals are w, written down
  unfoldable pub entry_on : (c : ℕ) (handed : Bool) (w : ℕ) → Entry
  entry_on c handed w = record { path = c; kids = each_of (kids_on handed w) (members (child_paths parent count c)) }

  -- the parts on path c, written down
  unfoldable pub entries_on : (c : ℕ) → List Entry
  entries_on c =
      only_if (hasb chain c) (entry_on c true (all_kids parent count R start c))
      ++ map (λ g. entry_on c false (one_kids parent count R c g)) (members (get_or rows c 0))

-- the document, written down
unfoldable pub handed_entries : (parent : ℕ → ℕ) (count : ℕ) (R : ℕ → ℕ → ℕ) (start : Start) → List Entry
handed_entries parent count R start =
    let all = chain parent count R start in
    let rows = goal_rows parent count R start in
    let order = path_order parent count in
    each_of (entries_on parent count R start all rows order) order

-- the document in numbers: its part count, then of each part its path, its child count and its children
unfoldable pub handed_numbers : (parent : ℕ → ℕ) (count : ℕ) (R : ℕ → ℕ → ℕ) (start : Start) → List ℕ
handed_numbers parent count R start = document_numbers (handed_entries parent count R start)
