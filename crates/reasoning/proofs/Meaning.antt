-- What the answers mean, to be read first: over a valid table, unless the answer is refusal 20, whatever meets a call's contract
-- answers consistent exactly if some document obeys the rules and holds every required path, and yes exactly if every document
-- that obeys the rules obeys the question.
use Prim.Native.Nat.{ℕ}
use mathlib.Core.Path.{◌≡◌}
use mathlib.Core.Logic.{◌↔◌}
use mathlib.Core.List.{List}
use lib.ListN.{length}
use Rattle.files.specs.declared.rules.Rules.{Rules}
use Rattle.files.specs.Rules.{ValidTable}
use Rattle.documents.specs.Tree.{Forest}
use Rattle.theory.specs.Counter.{question_of}
use Rattle.reasoning.specs.Verdict.{Verdict}
use Rattle.reasoning.specs.Reply.{Reply}
use Rattle.reasoning.specs.Calls.{Agrees, VerdictCase, Asked, Follows, Breaks, ReplyCase, DecidesConsistency, AnswersQuestion}
use Rattle.reasoning.proofs.QuestionJoins.{breaks_follows, counters_breaks}

module _ (t : Rules) (v : ValidTable t) (out : List ℕ) where
  module _ (r : Verdict) (after : List ℕ) (d : DecidesConsistency t out r after) (room : r ≡ Verdict.Refused 20 0 → ⊥) where
    -- consistent exactly if some document of the table obeys the rules and holds every required path
    pub consistent_means : ((n : ℕ) × (r ≡ Verdict.Consistent n)) ↔ Agrees t
    consistent_means = (
      λ a. let h = d.consistent a.0 a.1 in record { document = h.tree; witnesses = h.good },
      λ c. by c d.means,
    )
      where
        by : Agrees t → VerdictCase t out r after → (n : ℕ) × (r ≡ Verdict.Consistent n)
        by c (VerdictCase.not_valid n e s) = absurd (n v)
        by c (VerdictCase.no_room w bytes b l e s) = absurd (room e)
        by c (VerdictCase.consistent w a bytes i h e f) = (length bytes, e)
        by c (VerdictCase.inconsistent w n bytes i h e f) = absurd (n c)

    -- inconsistent exactly if none does
    pub inconsistent_means : ((n : ℕ) × (r ≡ Verdict.Inconsistent n)) ↔ (Agrees t → ⊥)
    inconsistent_means = (λ a. (d.inconsistent a.0 a.1).0, λ none. by none d.means)
      where
        by : (Agrees t → ⊥) → VerdictCase t out r after → (n : ℕ) × (r ≡ Verdict.Inconsistent n)
        by none (VerdictCase.not_valid n e s) = absurd (n v)
        by none (VerdictCase.no_room w bytes b l e s) = absurd (room e)
        by none (VerdictCase.consistent w a bytes i h e f) = absurd (none a)
        by none (VerdictCase.inconsistent w n bytes i h e f) = (length bytes, e)

  module _ (kind p q : ℕ) (can : Asked t kind p q) (r : Reply) (after : List ℕ) (d : AnswersQuestion t kind p q out r after)
      (room : r ≡ Reply.Refused 20 0 → ⊥) where
    -- yes exactly if every document of the table that obeys the rules obeys the question
    pub yes_means : ((n : ℕ) × (r ≡ Reply.Yes n)) ↔ Follows t (question_of kind p q)
    yes_means = (λ a. (d.yes a.0 a.1).0, λ f. by f d.means)
      where
        by : Follows t (question_of kind p q) → ReplyCase t kind p q out r after → (n : ℕ) × (r ≡ Reply.Yes n)
        by f (ReplyCase.not_valid n e s) = absurd (n v)
        by f (ReplyCase.not_asked w n e s) = absurd (n can)
        by f (ReplyCase.no_room w a bytes b l e s) = absurd (room e)
        by f (ReplyCase.yes w a g bytes i h e s) = (length bytes, e)
        by f (ReplyCase.no w a bytes goals c i h e s) = absurd (breaks_follows (counters_breaks h.good) f)

    -- no exactly if some document of the table obeys the rules and breaks the question
    pub no_means : ((n : ℕ) × (r ≡ Reply.No n)) ↔ ((b : Forest) × Breaks t (question_of kind p q) b)
    no_means = (
      λ a. let h = d.counter a.0 a.1 in (h.tree, counters_breaks h.good),
      λ b. by b d.means,
    )
      where
        by : (b : Forest) × Breaks t (question_of kind p q) b → ReplyCase t kind p q out r after → (n : ℕ) × (r ≡ Reply.No n)
        by b (ReplyCase.not_valid n e s) = absurd (n v)
        by b (ReplyCase.not_asked w n e s) = absurd (n can)
        by b (ReplyCase.no_room w a bytes x l e s) = absurd (room e)
        by b (ReplyCase.yes w a g bytes i h e s) = absurd (breaks_follows b.1 g)
        by b (ReplyCase.no w a bytes goals c i h e s) = (length bytes, e)
