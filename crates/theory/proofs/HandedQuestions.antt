-- A question answered no, of any kind: what its document begins with, and that its tree obeys the rules and breaks the question,
-- a co-occurrence in its first failing direction.
use Prim.Native.Nat.{ℕ, ◌≤◌, ◌<◌}
use mathlib.Core.Path.{◌≡◌, refl, sym, ◌∙◌}
use mathlib.Core.Logic.{◌⊎◌, inl, inr}
use mathlib.Core.Bool.{Bool, true, false}
use mathlib.Core.List.{List, [], ◌∷◌}
use native.Mathlib.Omega.{arith}
use lib.Dec.{T, eqb}
use borrow.Author.Tests.{eqb-true, eqb-false}
use Rattle.files.specs.Table.{Rule}
use Rattle.documents.specs.Paths.{depth_of}
use Rattle.documents.specs.Tree.{Forest}
use Rattle.documents.specs.Obey.{Implication, ObeysRule}
use Rattle.documents.specs.PartList.{StandsFor}
use Rattle.theory.specs.Counter.{BothGoals, one, two, CounterGoals, implication, absence, along, against, question_of, Counters}
use Rattle.theory.specs.Follows.{Implied, BreaksImplication}
use Rattle.theory.specs.Parts.{both_goals}
use Rattle.theory.specs.Reachable.{Fits, reachable}
use Rattle.theory.specs.Evidence.{impliesb, yesb}
use Rattle.theory.specs.Handed.{start_both, start_no, handed_entries}
use Rattle.theory.proofs.Answers.{implies_every}
use Rattle.theory.proofs.HandedRows.{Begins}
use Rattle.theory.proofs.HandedDocuments.{
  begins_implication,
  begins_absence,
  implication_document,
  absence_document,
  co_occurrence_document,
}

both_goals_lem : (p q : ℕ) → BothGoals p q (both_goals p q)
unfolding both_goals
both_goals_lem p q = pick (eqb p q) refl
  where
    pick : (b : Bool) → eqb p q ≡ b → BothGoals p q (both_goals p q)
    pick true e = rw (e, both_goals) (one (eqb-true p q e) refl)
    pick false e = rw (e, both_goals) (two (eqb-false p q e) refl)

both_same : {p q : ℕ} {goals others : List ℕ} → BothGoals p q goals → BothGoals p q others → goals ≡ others
both_same (one e f) (one g h) = f ∙ sym h
both_same (one e f) (two g h) = absurd (g e)
both_same (two e f) (one g h) = absurd (e g)
both_same (two e f) (two g h) = f ∙ sym h

-- a question's counter-document begins in one way only
pub counter_same : {parent : ℕ → ℕ} {rules : List Rule} {count kind p q : ℕ} {goals others : List ℕ}
    → CounterGoals parent rules count kind p q goals → CounterGoals parent rules count kind p q others → goals ≡ others
counter_same (implication e f) (implication g h) = f ∙ sym h
counter_same (implication e f) (absence g h) = absurd (omega arith)
counter_same (implication e f) (along g n h) = absurd (omega arith)
counter_same (implication e f) (against g i h) = absurd (omega arith)
counter_same (absence e f) (implication g h) = absurd (omega arith)
counter_same (absence e f) (absence g h) = both_same f h
counter_same (absence e f) (along g n h) = absurd (omega arith)
counter_same (absence e f) (against g i h) = absurd (omega arith)
counter_same (along e n f) (implication g h) = absurd (omega arith)
counter_same (along e n f) (absence g h) = absurd (omega arith)
counter_same (along e n f) (along g m h) = f ∙ sym h
counter_same (along e n f) (against g i h) = absurd (n i)
counter_same (against e i f) (implication g h) = absurd (omega arith)
counter_same (against e i f) (absence g h) = absurd (omega arith)
counter_same (against e i f) (along g n h) = absurd (n i)
counter_same (against e i f) (against g j h) = f ∙ sym h

-- what the document for a no begins with: goals that 01 gives it, as a set with their context
pub record BeginsNo (parent : ℕ → ℕ) (rules : List Rule) (count kind p q : ℕ) : Type 0 where
  pub goals : List ℕ
  pub are : CounterGoals parent rules count kind p q goals
  pub begins : Begins parent count goals (start_no parent rules count kind p q)

module _ {parent : ℕ → ℕ} {rules : List Rule} {count : ℕ} (fits : Fits parent rules count) (kind p q : ℕ) (first : p < count)
    (second : q < count) where
  pub begins_no : (1 ≤ kind) → (kind ≤ 3) → BeginsNo parent rules count kind p q
  unfolding start_no start_both
  begins_no low high = pick (eqb kind 1) refl (eqb kind 2) refl (impliesb parent rules count p q) refl
    where
      third : eqb kind 1 ≡ false → eqb kind 2 ≡ false → kind ≡ 3
      third e f = omega (arith, eqb-false kind 1 e, eqb-false kind 2 f)

      pick : (a : Bool) → eqb kind 1 ≡ a → (b : Bool) → eqb kind 2 ≡ b → (c : Bool) → impliesb parent rules count p q ≡ c
          → BeginsNo parent rules count kind p q
      pick true e b f c g = record {
        goals = p ∷ [];
        are = implication (eqb-true kind 1 e) refl;
        begins = rw (start_no, e) (begins_implication fits.descending fits.few first);
      }
      pick false e true f c g = record {
        goals = both_goals p q;
        are = absence (eqb-true kind 2 f) (both_goals_lem p q);
        begins = rw (start_no, e, f) (begins_absence fits.descending fits.few first second);
      }
      pick false e false f true g = record {
        goals = q ∷ [];
        are = against (third e f) ((implies_every fits p q first second).0 (rw g tt)) refl;
        begins = rw (start_no, e, f, start_both, g) (begins_implication fits.descending fits.few second);
      }
      pick false e false f false g = record {
        goals = p ∷ [];
        are = along (third e f) (λ i. rw g at ((implies_every fits p q first second).1 i)) refl;
        begins = rw (start_no, e, f, start_both, g) (begins_implication fits.descending fits.few first);
      }

  -- the tree of that document shows the no
  pub question_document : (1 ≤ kind) → (kind ≤ 3) → ((x : ℕ) → x < count → depth_of parent x ≤ 8)
      → (T (yesb parent rules count kind p q) → ⊥) → (d : Forest)
      → StandsFor (handed_entries parent count (reachable parent rules count) (start_no parent rules count kind p q)) d
      → Counters parent rules count kind p q d
  unfolding yesb start_no
  question_document low high shallow far d s = pick (eqb kind 1) refl (eqb kind 2) refl
    where
      broken : {a b : ℕ} → (ObeysRule parent (question_of kind p q) d → Implication parent a b d)
          → (kind ≡ 3 → (Implied parent rules count p q → ⊥) → Implication parent p q d → ⊥)
          → BreaksImplication parent rules count a b d → Counters parent rules count kind p q d
      broken o f b = record { is_document = b.is_document; obeys = b.obeys; breaks = λ r. b.breaks (o r); first = f }

      both : kind ≡ 3 → BreaksImplication parent rules count p q d
          ⊎ (T (impliesb parent rules count p q) × BreaksImplication parent rules count q p d)
          → Counters parent rules count kind p q d
      both e (inl b) = broken (λ r. r.along e) (λ g n i. b.breaks i) b
      both e (inr b) = broken (λ r. r.against e) (λ g n i. n ((implies_every fits p q first second).0 b.0)) b.1

      pick : (a : Bool) → eqb kind 1 ≡ a → (b : Bool) → eqb kind 2 ≡ b → Counters parent rules count kind p q d
      pick true e b f =
          broken (λ r. r.implication (eqb-true kind 1 e)) (λ g n i. omega (arith, eqb-true kind 1 e))
          (implication_document fits shallow p q first second (λ t. far (rw (yesb, e) t)) d (rw (start_no, e) at s))
      pick false e true f =
          let b = absence_document fits shallow p q first second (λ t. far (rw (yesb, e, f) t)) d (rw (start_no, e, f) at s) in
          record {
            is_document = b.is_document;
            obeys = b.obeys;
            breaks = λ r. b.breaks (r.absence (eqb-true kind 2 f));
            first = λ g n i. omega (arith, eqb-true kind 2 f);
          }
      pick false e false f =
          both (omega (arith, eqb-false kind 1 e, eqb-false kind 2 f))
          (co_occurrence_document fits shallow p q first second (λ t. far (rw (yesb, e, f) t)) d (rw (start_no, e, f) at s))
