-- What a call hands back, given to the check of documents: a witness obeys, and a counter-document is neither refused nor breaks a
-- rule.
use Prim.Native.Nat.{ℕ, ◌^◌, ◌<◌}
use mathlib.Core.Path.{◌≡◌, sym, ap, subst, ◌∙◌}
use mathlib.Core.List.{List}
use native.Mathlib.Omega.{arith}
use lib.ListN.{length, take}
use Rattle.files.specs.declared.rules.Rules.{Rules}
use Rattle.files.specs.Format.{Outcome, got}
use Rattle.files.specs.Number.{bytes_of_all}
use Rattle.files.specs.Rules.{ValidTable}
use Rattle.documents.specs.Answers.{Checked}
use Rattle.documents.specs.Checking.{CheckDocument}
use Rattle.documents.specs.Judgement.{parents_of, Reads, obeys}
use Rattle.documents.specs.PartList.{Entry, document_numbers, ValidParts}
use Rattle.documents.specs.Tree.{Forest}
use Rattle.documents.proofs.CheckingJoins.{Obeyed, obeys_judged}
use Rattle.theory.specs.Handed.{Start}
use Rattle.theory.proofs.HandedQuestions.{counter_same}
use Rattle.theory.proofs.HandedRows.{Begins}
use Rattle.reasoning.specs.Verdict.{Verdict}
use Rattle.reasoning.specs.Reply.{Reply}
use Rattle.reasoning.specs.Calls.{IsDocument, HandsBack, VerdictCase, ReplyCase, DecidesConsistency, AnswersQuestion}
use Rattle.reasoning.proofs.ConsistencyJoins.{asked_begins}
use Rattle.reasoning.proofs.Placed.{fills_take}
use Rattle.reasoning.proofs.QuestionJoins.{counter_begins}
use Rattle.reasoning.proofs.ReadBack.{document_is, document_same, document_valid, document_read, document_room}

-- what was read is one list
got_same : (es fs : List Entry) (m n : ℕ) → ◌≡◌ {A = Outcome (List Entry)} (got es m) (got fs n) → es ≡ fs
got_same es fs m n e = cc

module _ (t : Rules) (v : ValidTable t) {goals : List ℕ} {start : Start} (begins : Begins (parents_of t) t.paths goals start) where
  -- the document that 01 writes down, as the check of documents reads it
  reads_back : {bytes : List ℕ} {Good : Forest → Type 0} → IsDocument t goals bytes → (h : HandsBack t bytes Good)
      → Reads t bytes h.parts h.tree
  reads_back {bytes} d h = record {
    table = v;
    short = omega (arith, ap length (document_same t v begins d (document_is t v begins)), document_room t v begins);
    parts = subst (ValidParts (parents_of t) t.paths) (sym same) (document_valid t v begins d);
    bytes = d.are ∙ ap (λ (es : List Entry). bytes_of_all (document_numbers es)) (sym same);
    tree = h.stands;
  }
    where
      same : h.parts ≡ d.parts
      same = got_same h.parts d.parts (length bytes) (length bytes) (sym h.read ∙ document_read t v begins d)

-- a witness handed back obeys
pub witness_obeys : (t : Rules) (out : List ℕ) (r : Verdict) (after : List ℕ) (n : ℕ) (c : Checked) → t.required < 2 ^ 64
    → DecidesConsistency t out r after → r ≡ Verdict.Consistent n → CheckDocument t (take n after) c → c ≡ Checked.Obeys
witness_obeys t out r after n c word d e k = by d.means
  where
    by : VerdictCase t out r after → c ≡ Checked.Obeys
    by (VerdictCase.not_valid m f s) = absurd (let z : ◌≡◌ {A = ℕ} 0 1 = cc in omega arith)
    by (VerdictCase.no_room v bytes b l f s) = absurd (let z : ◌≡◌ {A = ℕ} 0 1 = cc in omega arith)
    by (VerdictCase.inconsistent v m bytes i h f s) = absurd (let z : ◌≡◌ {A = ℕ} 0 1 = cc in omega arith)
    by (VerdictCase.consistent v a bytes i h f s) =
        let z : length bytes ≡ n = cc in
        let first : take n after ≡ bytes = subst (λ (m : ℕ). take m after ≡ bytes) z (fills_take s) in
        sym ((subst (λ (l : List ℕ). CheckDocument t l c) first k).only Checked.Obeys
        (obeys (reads_back t v (asked_begins t word v) i h) h.good.obeys h.good.holds))

-- neither refused nor with a broken rule: it obeys, or only a required path is missing
pub data Unbroken : Checked → Type 0 where
  all : Unbroken Checked.Obeys
  but : (x : ℕ) → Unbroken (Checked.Missing x)

-- a counter-document handed back is neither refused nor breaks a rule
pub counter_unbroken : (t : Rules) (kind p q : ℕ) (out : List ℕ) (r : Reply) (after : List ℕ) (n : ℕ) (c : Checked) → t.required < 2 ^ 64
    → AnswersQuestion t kind p q out r after → r ≡ Reply.No n → CheckDocument t (take n after) c → Unbroken c
counter_unbroken t kind p q out r after n c word d e k = by d.means
  where
    told : {s : List ℕ} → CheckDocument t s c → Obeyed t s → Unbroken c
    told k (Obeyed.whole j) = subst Unbroken (k.only Checked.Obeys j) all
    told k (Obeyed.lacks x j) = subst Unbroken (k.only (Checked.Missing x) j) (but x)

    by : ReplyCase t kind p q out r after → Unbroken c
    by (ReplyCase.not_valid m f s) = absurd (let z : ◌≡◌ {A = ℕ} 0 1 = cc in omega arith)
    by (ReplyCase.not_asked v m f s) = absurd (let z : ◌≡◌ {A = ℕ} 0 1 = cc in omega arith)
    by (ReplyCase.no_room v a bytes b l f s) = absurd (let z : ◌≡◌ {A = ℕ} 0 1 = cc in omega arith)
    by (ReplyCase.yes v a w bytes i h f s) = absurd (let z : ◌≡◌ {A = ℕ} 0 1 = cc in omega arith)
    by (ReplyCase.no v a bytes goals g i h f s) =
        let z : length bytes ≡ n = cc in
        let first : take n after ≡ bytes = subst (λ (m : ℕ). take m after ≡ bytes) z (fills_take s) in
        let b = counter_begins t v kind p q a in
        let w = reads_back t v b.begins (subst (λ (l : List ℕ). IsDocument t l bytes) (counter_same g b.are) i) h in
        let m = subst (λ (l : List ℕ). CheckDocument t l c) first k in
        told m (obeys_judged t word bytes w h.good.obeys)
