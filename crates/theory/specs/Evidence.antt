-- Evidence: what its numbers may be for a question, which of them are written, and the numbers computed.
use Rattle.std.specs.Prelude.{ℕ, ◌≤◌, ◌≡◌, Bool, true, false, not, ◌&&◌, ◌||◌, eqb, length}
use mathlib.Core.List.{List, ◌∷◌, ◌++◌, Memᴰ}
use Rattle.files.specs.Table.{Rule, Numbered}
use Rattle.files.specs.Sets.{Has}
use Rattle.documents.specs.Paths.{Below, Context, context_of}
use Rattle.theory.specs.Walk.{Walk, Reach, Dead}
use Rattle.theory.specs.Written.{Written}
use Rattle.theory.specs.Reachable.{reachb}
use Rattle.theory.specs.Search.{written_walk}
use Rattle.theory.specs.Decide.{
  rule_at,
  LeastDead,
  LeastPair,
  RootPair,
  LeastRootPair,
  LowestDead,
  dead_path,
  dead_rule,
  is_dead,
  pair_rule,
  is_pair,
  pair_side,
  root_rule,
  is_root_pair,
  root_first,
  root_second,
  dead_asked,
  is_asked_dead,
}

-- a walk in numbers: its step count and codes
unfoldable pub walk_numbers : List ℕ → List ℕ
walk_numbers codes = length codes ∷ codes

-- direct evidence in numbers, its walk one of W: 1, walk from p to q inside their context
pub record DirectNumbers (parent : ℕ → ℕ) (W : ℕ → ℕ → List ℕ → ℕ → Type 0) (p q : ℕ) (numbers : List ℕ) : Type 0 where
  pub context : ℕ
  pub is_context : Context parent p q context
  pub codes : List ℕ
  pub walk : W context p codes q
  pub are : numbers ≡ 1 ∷ walk_numbers codes

-- evidence for a dead path in numbers: 2, the dead path p, y, rule number, walk p to y inside the root, walks from y to the
-- rule's left and right side inside the rule's context
pub record DeadNumbers (parent : ℕ → ℕ) (rules : List Rule) (W : ℕ → ℕ → List ℕ → ℕ → Type 0) (p y r : ℕ) (numbers : List ℕ) : Type 0 where
  pub ru : Rule
  pub rule : Numbered rules r ru
  pub absence : ru.kind ≡ 2
  pub context : ℕ
  pub is_context : Context parent ru.left ru.right context
  pub to_y : List ℕ
  pub to_left : List ℕ
  pub to_right : List ℕ
  pub here : W 0 p to_y y
  pub left : W context y to_left ru.left
  pub right : W context y to_right ru.right
  pub are : numbers ≡ 2 ∷ (p ∷ (y ∷ (r ∷ (walk_numbers to_y ++ (walk_numbers to_left ++ walk_numbers to_right)))))

-- the sides of a rule that the first and the second path of a pair reach: side 0 left and right, side 1 crossed
pub data Ends (ru : Rule) : (side first second : ℕ) → Type 0 where
  straight : Ends ru 0 ru.left ru.right
  crossed : Ends ru 1 ru.right ru.left

-- evidence for a pair in numbers: 3, first path, second path, rule number, side, a walk from each inside the rule's context
pub record PairNumbers (parent : ℕ → ℕ) (rules : List Rule) (W : ℕ → ℕ → List ℕ → ℕ → Type 0) (x y r side : ℕ) (numbers : List ℕ)
    : Type 0 where
  pub ru : Rule
  pub rule : Numbered rules r ru
  pub absence : ru.kind ≡ 2
  pub context : ℕ
  pub is_context : Context parent ru.left ru.right context
  pub first_end : ℕ
  pub second_end : ℕ
  pub ends : Ends ru side first_end second_end
  pub from_first : List ℕ
  pub from_second : List ℕ
  pub first : W context x from_first first_end
  pub second : W context y from_second second_end
  pub are : numbers ≡ 3 ∷ (x ∷ (y ∷ (r ∷ (side ∷ (walk_numbers from_first ++ walk_numbers from_second)))))

-- ---- which evidence a question allows: each step and condition true, whatever the choices

-- evidence that p is dead
pub record ShowsDead (parent : ℕ → ℕ) (rules : List Rule) (p : ℕ) (numbers : List ℕ) : Type 0 where
  pub y : ℕ
  pub r : ℕ
  pub by : DeadNumbers parent rules (Walk parent rules) p y r numbers

-- evidence that an absence rule whose context is a prefix of c excludes x and y
pub record ShowsPair (parent : ℕ → ℕ) (rules : List Rule) (c x y : ℕ) (numbers : List ℕ) : Type 0 where
  pub r : ℕ
  pub side : ℕ
  pub by : PairNumbers parent rules (Walk parent rules) x y r side numbers
  pub prefix : Below parent by.context c

-- evidence for an implication: direct, or p is dead
pub data ShowsImplication (parent : ℕ → ℕ) (rules : List Rule) (p q : ℕ) (numbers : List ℕ) : Type 0 where
  direct : DirectNumbers parent (Walk parent rules) p q numbers → ShowsImplication parent rules p q numbers
  dead : ShowsDead parent rules p numbers → ShowsImplication parent rules p q numbers

-- evidence for an absence: p is dead, q is dead, or a pair
pub data ShowsAbsence (parent : ℕ → ℕ) (rules : List Rule) (p q : ℕ) (numbers : List ℕ) : Type 0 where
  dead_first : ShowsDead parent rules p numbers → ShowsAbsence parent rules p q numbers
  dead_second : ShowsDead parent rules q numbers → ShowsAbsence parent rules p q numbers
  pair : (c : ℕ) → Context parent p q c → ShowsPair parent rules c p q numbers → ShowsAbsence parent rules p q numbers

-- evidence for a co-occurrence: both implications' evidence, p to q first
pub record ShowsBoth (parent : ℕ → ℕ) (rules : List Rule) (p q : ℕ) (numbers : List ℕ) : Type 0 where
  pub there : List ℕ
  pub back : List ℕ
  pub shows_there : ShowsImplication parent rules p q there
  pub shows_back : ShowsImplication parent rules q p back
  pub are : numbers ≡ there ++ back

-- the numbers are evidence for the question: kind 1 implication, 2 absence, 3 co-occurrence of p and q
pub data Shows (parent : ℕ → ℕ) (rules : List Rule) (kind p q : ℕ) (numbers : List ℕ) : Type 0 where
  implication : kind ≡ 1 → ShowsImplication parent rules p q numbers → Shows parent rules kind p q numbers
  absence : kind ≡ 2 → ShowsAbsence parent rules p q numbers → Shows parent rules kind p q numbers
  co_occurrence : kind ≡ 3 → ShowsBoth parent rules p q numbers → Shows parent rules kind p q numbers

-- evidence that no document holds all the paths asked for
pub data ShowsInconsistent (parent : ℕ → ℕ) (rules : List Rule) (asked : ℕ) (numbers : List ℕ) : Type 0 where
  pair : (x y : ℕ) → Has asked x → Has asked y → ShowsPair parent rules 0 x y numbers → ShowsInconsistent parent rules asked numbers
  dead : (x : ℕ) → Has asked x → ShowsDead parent rules x numbers → ShowsInconsistent parent rules asked numbers

-- ---- which of them is written: preferred kinds, least choices, written walks

-- p is dead, by least y, then least rule
pub record WritesDead (parent : ℕ → ℕ) (rules : List Rule) (p : ℕ) (numbers : List ℕ) : Type 0 where
  pub y : ℕ
  pub r : ℕ
  pub least : LeastDead parent rules p y r
  pub by : DeadNumbers parent rules (Written parent rules) p y r numbers

-- implication: direct if there is one, else dead for p
pub data WritesImplication (parent : ℕ → ℕ) (rules : List Rule) (p q : ℕ) (numbers : List ℕ) : Type 0 where
  direct : DirectNumbers parent (Written parent rules) p q numbers → WritesImplication parent rules p q numbers
  dead : (c : ℕ) → Context parent p q c → (Reach parent rules c p q → ⊥) → WritesDead parent rules p numbers
      → WritesImplication parent rules p q numbers

-- absence: dead for p, else dead for q, else the pair with the least rule, side 0 preferred
pub data WritesAbsence (parent : ℕ → ℕ) (rules : List Rule) (p q : ℕ) (numbers : List ℕ) : Type 0 where
  dead_first : WritesDead parent rules p numbers → WritesAbsence parent rules p q numbers
  dead_second : (Dead parent rules p → ⊥) → WritesDead parent rules q numbers → WritesAbsence parent rules p q numbers
  pair : (Dead parent rules p → ⊥) → (Dead parent rules q → ⊥) → (c r side : ℕ) → Context parent p q c
      → LeastPair parent rules c p q r side → PairNumbers parent rules (Written parent rules) p q r side numbers
      → WritesAbsence parent rules p q numbers

-- co-occurrence: both implications' evidence, p to q first
pub record WritesBoth (parent : ℕ → ℕ) (rules : List Rule) (p q : ℕ) (numbers : List ℕ) : Type 0 where
  pub there : List ℕ
  pub back : List ℕ
  pub writes_there : WritesImplication parent rules p q there
  pub writes_back : WritesImplication parent rules q p back
  pub are : numbers ≡ there ++ back

-- the evidence written for a question
pub data Writes (parent : ℕ → ℕ) (rules : List Rule) (kind p q : ℕ) (numbers : List ℕ) : Type 0 where
  implication : kind ≡ 1 → WritesImplication parent rules p q numbers → Writes parent rules kind p q numbers
  absence : kind ≡ 2 → WritesAbsence parent rules p q numbers → Writes parent rules kind p q numbers
  co_occurrence : kind ≡ 3 → WritesBoth parent rules p q numbers → Writes parent rules kind p q numbers

-- the evidence written for an inconsistent set: the root pair, side 0; else dead for the lowest dead path asked for
pub data WritesInconsistent (parent : ℕ → ℕ) (rules : List Rule) (asked : ℕ) (numbers : List ℕ) : Type 0 where
  pair : (x y r : ℕ) → LeastRootPair parent rules asked x y r → PairNumbers parent rules (Written parent rules) x y r 0 numbers
      → WritesInconsistent parent rules asked numbers
  dead : ((x y r : ℕ) → RootPair parent rules asked x y r → ⊥) → (x : ℕ) → LowestDead parent rules asked x
      → WritesDead parent rules x numbers → WritesInconsistent parent rules asked numbers

-- at most n numbers, each at most 512: such a number takes at most two bytes, so all of them at most 2 n
pub record Bounded (n : ℕ) (numbers : List ℕ) : Type 0 where
  pub few : length numbers ≤ n
  pub small : (k : ℕ) → Memᴰ k numbers → k ≤ 512

-- ---- the answers and the numbers, computed

-- the side of a rule that the first path of a pair reaches
unfoldable pub first_side : Rule → ℕ → ℕ
first_side ru side = elim (eqb side 0) [ true ↦ ru.left | false ↦ ru.right ]

-- the side of a rule that the second path of a pair reaches
unfoldable pub second_side : Rule → ℕ → ℕ
second_side ru side = elim (eqb side 0) [ true ↦ ru.right | false ↦ ru.left ]

module _ (parent : ℕ → ℕ) (rules : List Rule) (count : ℕ) where
  -- whether an implication is answered yes: direct or dead
  unfoldable pub impliesb : (p q : ℕ) → Bool
  impliesb p q = reachb parent rules count (context_of parent p q) p q || is_dead parent rules count p

  -- whether an absence is answered yes: dead p, dead q or a pair
  unfoldable pub excludesb : (p q : ℕ) → Bool
  excludesb p q = is_dead parent rules count p || (is_dead parent rules count q || is_pair parent rules count (context_of parent p q) p q)

  -- whether a question is answered yes
  unfoldable pub yesb : (kind p q : ℕ) → Bool
  yesb kind p q =
      elim (eqb kind 1) [
        | true ↦ impliesb p q
        | false ↦ elim (eqb kind 2) [ true ↦ excludesb p q | false ↦ impliesb p q && impliesb q p ]
      ]

  -- whether some document that obeys holds all the paths asked for
  unfoldable pub consistentb : (asked : ℕ) → Bool
  consistentb asked = not (is_root_pair parent rules count asked || is_asked_dead parent rules count asked)

  -- the direct evidence
  unfoldable pub direct_numbers : (p q : ℕ) → List ℕ
  direct_numbers p q = 1 ∷ walk_numbers (written_walk parent rules count (context_of parent p q) p q)

  -- the evidence by y and rule number r that p is dead
  unfoldable pub dead_numbers_by : (p y r : ℕ) → List ℕ
  dead_numbers_by p y r =
      let ru = rule_at rules r in
      let a = context_of parent ru.left ru.right in
      2 ∷ (p ∷ (y ∷ (r ∷ (walk_numbers (written_walk parent rules count 0 p y)
      ++ (walk_numbers (written_walk parent rules count a y ru.left) ++ walk_numbers (written_walk parent rules count a y ru.right))))))

  -- the evidence that p is dead
  unfoldable pub dead_numbers : (p : ℕ) → List ℕ
  dead_numbers p = dead_numbers_by p (dead_path parent rules count p) (dead_rule parent rules count p)

  -- the evidence by rule number r and its side that x and y are excluded
  unfoldable pub pair_numbers : (x y r side : ℕ) → List ℕ
  pair_numbers x y r side =
      let ru = rule_at rules r in
      let a = context_of parent ru.left ru.right in
      3 ∷ (x ∷ (y ∷ (r ∷ (side ∷ (walk_numbers (written_walk parent rules count a x (first_side ru side))
      ++ walk_numbers (written_walk parent rules count a y (second_side ru side)))))))

  -- an implication's evidence
  unfoldable pub implication_numbers : (p q : ℕ) → List ℕ
  implication_numbers p q =
      elim (reachb parent rules count (context_of parent p q) p q) [ true ↦ direct_numbers p q | false ↦ dead_numbers p ]

  -- an absence's evidence
  unfoldable pub absence_numbers : (p q : ℕ) → List ℕ
  absence_numbers p q =
      elim (is_dead parent rules count p) [
        | true ↦ dead_numbers p
        | false ↦ elim (is_dead parent rules count q) [
          | true ↦ dead_numbers q
          | false ↦
              let c = context_of parent p q in
              let r = pair_rule parent rules count c p q in
              pair_numbers p q r (pair_side parent rules count c p q r)
        ]
      ]

  -- the evidence for a question answered yes
  unfoldable pub evidence_numbers : (kind p q : ℕ) → List ℕ
  evidence_numbers kind p q =
      elim (eqb kind 1) [
        | true ↦ implication_numbers p q
        | false ↦ elim (eqb kind 2) [ true ↦ absence_numbers p q | false ↦ implication_numbers p q ++ implication_numbers q p ]
      ]

  -- the evidence for an inconsistent set
  unfoldable pub inconsistent_numbers : (asked : ℕ) → List ℕ
  inconsistent_numbers asked =
      elim (is_root_pair parent rules count asked) [
        | true ↦
            let r = root_rule parent rules count asked in
            pair_numbers (root_first parent rules count asked r) (root_second parent rules count asked r) r 0
        | false ↦ dead_numbers (dead_asked parent rules count asked)
      ]
