-- What the document for a question's no begins with, and what it shows.
use Rattle.std.specs.Prelude.{ℕ, ◌≡◌, List, [], ◌∷◌}
use Rattle.files.specs.Table.{Rule}
use Rattle.documents.specs.Tree.{Forest, Document}
use Rattle.documents.specs.Obey.{Implication, ObeysRule, Obeys}
use Rattle.theory.specs.Follows.{Implied}

-- both goals; equal goals count as one
pub data BothGoals (p q : ℕ) (goals : List ℕ) : Type 0 where
  one : p ≡ q → goals ≡ p ∷ [] → BothGoals p q goals
  two : (p ≡ q → ⊥) → goals ≡ p ∷ q ∷ [] → BothGoals p q goals

-- the goals of part 0: for an implication p, for an absence both; for a co-occurrence those of the first failing direction, p
-- unless p > q follows
pub data CounterGoals (parent : ℕ → ℕ) (rules : List Rule) (count kind p q : ℕ) (goals : List ℕ) : Type 0 where
  implication : kind ≡ 1 → goals ≡ p ∷ [] → CounterGoals parent rules count kind p q goals
  absence : kind ≡ 2 → BothGoals p q goals → CounterGoals parent rules count kind p q goals
  along : kind ≡ 3 → (Implied parent rules count p q → ⊥) → goals ≡ p ∷ [] → CounterGoals parent rules count kind p q goals
  against : kind ≡ 3 → Implied parent rules count p q → goals ≡ q ∷ [] → CounterGoals parent rules count kind p q goals

-- the question of a kind about p and q, as a rule
abbrev pub question_of : (kind p q : ℕ) → Rule
question_of kind p q = record { kind = kind; left = p; right = q }

-- d shows the no: it is a document of the table, obeys the rules and breaks the question; of a co-occurrence it breaks p > q,
-- unless that follows
pub record Counters (parent : ℕ → ℕ) (rules : List Rule) (count kind p q : ℕ) (d : Forest) : Type 0 where
  pub is_document : Document parent count d
  pub obeys : Obeys parent rules d
  pub breaks : ObeysRule parent (question_of kind p q) d → ⊥
  pub first : kind ≡ 3 → (Implied parent rules count p q → ⊥) → Implication parent p q d → ⊥
