-- The documents of 01: parts [c; goals], the children that each gets, and the part that each answer's document begins with.
use Rattle.std.specs.Prelude.{ℕ, zero, suc, ◌<◌, ◌↔◌, Bool, true, false, not, T, eqb}
use mathlib.Core.List.{List, [], ◌∷◌, ◌++◌, Memᴰ}
use Rattle.files.specs.Table.{Rule, Numbered}
use Rattle.documents.specs.Paths.{Below, context_of, towards}
use Rattle.theory.specs.Walk.{Reach}

-- a part [c; goals]: the path c that it is on, and goals below c
pub record Part : Type 0 where
  pub path : ℕ
  pub goals : List ℕ

-- the path that a part is on
abbrev pub path_of : Part → ℕ
path_of a = a.path

-- y is reachable inside c from any of the goals
pub record ReachAny (parent : ℕ → ℕ) (rules : List Rule) (c : ℕ) (goals : List ℕ) (y : ℕ) : Type 0 where
  pub goal : ℕ
  pub listed : Memᴰ goal goals
  pub reach : Reach parent rules c goal y

-- the rules' paths are in the table
pub record RulesIn (count : ℕ) (rules : List Rule) : Type 0 where
  pub left : (r : ℕ) (ru : Rule) → Numbered rules r ru → ru.left < count
  pub right : (r : ℕ) (ru : Rule) → Numbered rules r ru → ru.right < count

-- the test `reach c x y` decides, within the table, whether y is reachable from x inside c
pub record Decides (parent : ℕ → ℕ) (rules : List Rule) (count : ℕ) (reach : ℕ → ℕ → ℕ → Bool) : Type 0 where
  pub exactly : (c x y : ℕ) → Below parent c x → x < count → y < count → T (reach c x y) ↔ Reach parent rules c x y

-- some member of the list passes the test
unfoldable pub someb : {A : Type 0} → (A → Bool) → List A → Bool
someb test [] = false
someb test (a ∷ rest) = elim (test a) [ true ↦ true | false ↦ someb test rest ]

-- the context of all goals
unfoldable pub meet_all : (parent : ℕ → ℕ) → List ℕ → ℕ
meet_all parent [] = 0
meet_all parent (g ∷ []) = g
meet_all parent (g ∷ h ∷ more) = context_of parent g (meet_all parent (h ∷ more))

-- the child part of a part on c with goal x: on c's child path towards x
abbrev pub child_for : (parent : ℕ → ℕ) (c x : ℕ) → Part
child_for parent c x = record { path = towards parent c x; goals = x ∷ [] }

-- the child part of a part on c that has all of its goals: on c's child path towards their context
abbrev pub child_for_all : (parent : ℕ → ℕ) (c : ℕ) (goals : List ℕ) → Part
child_for_all parent c goals = record { path = towards parent c (meet_all parent goals); goals = goals }

-- a child for each goal other than c
unfoldable pub own_each : (parent : ℕ → ℕ) (c : ℕ) → List ℕ → List Part
own_each parent c [] = []
own_each parent c (g ∷ more) = elim (eqb g c) [ true ↦ own_each parent c more | false ↦ child_for parent c g ∷ own_each parent c more ]

-- the goals' own children: where the goals' context is c each goal other than c has its own, above it one child has them all
unfoldable pub own_kids : (parent : ℕ → ℕ) (c : ℕ) (goals : List ℕ) → List Part
own_kids parent c goals =
    elim (eqb c (meet_all parent goals)) [
      | true ↦ own_each parent c goals
      | false ↦ child_for_all parent c goals ∷ []
    ]

-- a part [k; goals] covers x: x is reachable inside k from any of its goals
unfoldable pub coversb : (reach : ℕ → ℕ → ℕ → Bool) → Part → ℕ → Bool
coversb reach a x = someb (λ g. reach a.path g x) a.goals

-- x is to get a child of its own: it is not c itself, it is reachable, and no child chosen so far covers it
unfoldable pub lacksb : (reach : ℕ → ℕ → ℕ → Bool) → Part → (chosen : List Part) (x : ℕ) → Bool
lacksb reach a chosen x =
    elim (eqb a.path x) [
      | true ↦ false
      | false ↦ elim (coversb reach a x) [ true ↦ not (someb (λ k. coversb reach k x) chosen) | false ↦ false ]
    ]

-- the paths with numbers below `left`, highest number first, each with a child part exactly if no child chosen so far covers it
unfoldable pub fill : (parent : ℕ → ℕ) (reach : ℕ → ℕ → ℕ → Bool) → Part → (left : ℕ) → List Part → List Part
fill parent reach a zero chosen = chosen
fill parent reach a (suc x) chosen =
    elim (lacksb reach a chosen x) [
      | true ↦ fill parent reach a x (chosen ++ (child_for parent a.path x ∷ []))
      | false ↦ fill parent reach a x chosen
    ]

-- the children of a part, in a table of `count` paths
unfoldable pub kids_of : (parent : ℕ → ℕ) (count : ℕ) (reach : ℕ → ℕ → ℕ → Bool) → Part → List Part
kids_of parent count reach a = fill parent reach a count (own_kids parent a.path a.goals)

-- part 0 of a document, with its goals
abbrev pub part_zero : (goals : List ℕ) → Part
part_zero goals = record { path = 0; goals = goals }

-- part 0 of the document for an implication's no
abbrev pub implication_part : (p : ℕ) → Part
implication_part p = part_zero (p ∷ [])

-- two goals; equal goals count as one
unfoldable pub both_goals : (p q : ℕ) → List ℕ
both_goals p q = elim (eqb p q) [ true ↦ p ∷ [] | false ↦ p ∷ q ∷ [] ]

-- part 0 of the document for an absence's no
abbrev pub absence_part : (p q : ℕ) → Part
absence_part p q = part_zero (both_goals p q)

-- part 0 of the document for consistency
abbrev pub consistency_part : (required : List ℕ) → Part
consistency_part required = part_zero (0 ∷ required)
