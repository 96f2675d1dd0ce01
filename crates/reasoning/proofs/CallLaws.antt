-- The laws that the code of the two calls cites at its returns, in the code's words: the words from which the document was made,
-- the numbers collected as evidence, and what putting their bytes answered.
use Prim.Native.Nat.{ℕ, ◌%◌, ◌^◌, ◌≤◌, ◌<◌}
use mathlib.Core.Path.{◌≡◌, refl, sym, ap, ap₂, subst, subst₂, ◌∙◌}
use mathlib.Core.Bool.{true, false}
use mathlib.Core.List.{List, [], ◌∷◌, Memᴰ}
use native.Mathlib.Omega.{arith}
use lib.Dec.{T}
use Rattle.files.specs.declared.rules.Rules.{Rules}
use Rattle.files.specs.Writing.{Written, put, wrapped, Puts}
use Rattle.files.specs.Number.{limit, bytes_of_all}
use Rattle.files.specs.Rules.{parents_in, ValidTable}
use Rattle.files.specs.Table.{Rule}
use Rattle.files.specs.TableTest.{table_passes}
use Rattle.files.proofs.TableTests.{passes_valid}
use Rattle.reasoning.specs.Verdict.{Verdict}
use Rattle.reasoning.specs.Reply.{Reply}
use Rattle.reachable.specs.Arrays.{parent_of, rule_list}
use Rattle.documents.specs.Judgement.{parents_of}
use Rattle.reasoning.specs.Calls.{rule_list_of, asked_of, Answered, answer_of, document_bytes, inconsistent_bytes, evidence_bytes, askable, counter_start, DecidesConsistency, AnswersQuestion}
use Rattle.theory.specs.Evidence.{consistentb, yesb, evidence_numbers, inconsistent_numbers, Bounded}
use Rattle.theory.specs.Handed.{Start, ReachWords, start_consistency, start_no, handed_numbers}
use Rattle.theory.proofs.Agreeing.{numbers_agree}
use Rattle.reasoning.proofs.ConsistencyJoins.{
  consistency_invalid,
  consistency_agrees,
  consistency_conflicts,
  asked_begins,
  conflict_bounded,
  consistency_decides,
}
use Rattle.theory.proofs.HandedRows.{Begins}
use Rattle.reasoning.proofs.Placed.{puts_answer}
use Rattle.reasoning.proofs.QuestionJoins.{ask_invalid, ask_unasked, ask_yes, ask_no, askable_asked, yes_bounded, counter_begins, ask_answers}
use Rattle.reasoning.proofs.TableArrays.{arrays_rules, arrays_parents}
use Rattle.reasoning.proofs.ValidFits.{table_fits, table_shallow}

-- the rules as the arrays have them
abbrev array_rules : Rules → List Rule
array_rules t = rule_list t.kind t.left t.right t.rules

-- what a counter-document begins with, by the arrays
abbrev array_start : (t : Rules) (parent : List ℕ) (kind p q : ℕ) → Start
array_start t parent = start_no (parent_of parent) (array_rules t) t.paths

-- ---- the document's and the evidence's numbers

module _ (t : Rules) (v : ValidTable t) {R : ℕ → ℕ → ℕ} (words : ReachWords (parents_of t) (rule_list_of t) t.paths R) {goals : List ℕ}
    {start : Start} (begins : Begins (parents_of t) t.paths goals start) where
  words_bytes : bytes_of_all (handed_numbers (parents_of t) t.paths R start) ≡ document_bytes t start
  unfolding document_bytes
  words_bytes = ap bytes_of_all (numbers_agree (table_fits t v) (table_shallow t v) words begins)

wrapped_small : (ns : List ℕ) → ((k : ℕ) → Memᴰ k ns → k ≤ 512) → wrapped ns ≡ ns
unfolding wrapped
wrapped_small [] h = refl
wrapped_small (n ∷ ns) h =
    let few = h n (Memᴰ.head refl) in
    let small : n % limit ≡ n = omega arith in
    ap₂ (λ (m : ℕ) (ms : List ℕ). m ∷ ms) small (wrapped_small ns (λ k m. h k (Memᴰ.tail m)))

-- evidence put as the numbers collected
collected : {n : ℕ} {ns : List ℕ} (numbers out : List ℕ) {w : Written} {after : List ℕ} → Bounded n ns → numbers ≡ ns
    → Puts (put (bytes_of_all (wrapped numbers)) out) w after → Puts (put (bytes_of_all ns) out) w after
collected {ns = ns} numbers out {w} {after} b e p =
    subst (λ (l : List ℕ). Puts (put (bytes_of_all l) out) w after) (ap wrapped e ∙ wrapped_small ns b.small) p

-- ---- consistency

module _ (t : Rules) (out : List ℕ) (word : t.required < 2 ^ 64) where
  -- a table that is not valid
  pub consistency_refuses : table_passes t ≡ false → DecidesConsistency t out (Verdict.Refused 12 0) out
  consistency_refuses e =
      let z = consistency_invalid t out e in
      consistency_decides t out (Verdict.Refused 12 0) out word (sym (ap (λ (x : Answered Verdict). x.answer) z))
      (sym (ap (λ (x : Answered Verdict). x.buffer) z))

  module _ (passes : table_passes t ≡ true) (parent : List ℕ) (lent : parent ≡ parents_in t.parent t.paths) where
    valid : ValidTable t
    valid = (passes_valid t word).0 passes

    parents_same : parent_of parent ≡ parents_of t
    parents_same = arrays_parents t valid parent lent

    module _ {R : ℕ → ℕ → ℕ} (words : ReachWords (parent_of parent) (array_rules t) t.paths R) where
      words_of : ReachWords (parents_of t) (rule_list_of t) t.paths R
      words_of = subst₂ (λ (p : ℕ → ℕ) (l : List Rule). ReachWords p l t.paths R) parents_same (arrays_rules t) words

      -- consistent: the document was put
      pub consistency_hands : consistentb (parent_of parent) (array_rules t) t.paths (asked_of t) ≡ true
          → (w : Written) (r : Verdict) (after : List ℕ)
          → Puts (put (bytes_of_all (handed_numbers (parent_of parent) t.paths R (start_consistency (asked_of t)))) out) w after
          → r ≡ answer_of Verdict.Consistent Verdict.Refused w → DecidesConsistency t out r after
      consistency_hands f w r after p g =
          let same : bytes_of_all (handed_numbers (parent_of parent) t.paths R (start_consistency (asked_of t)))
          ≡ document_bytes t (start_consistency (asked_of t)) =
          ap (λ (z : ℕ → ℕ). bytes_of_all (handed_numbers z t.paths R (start_consistency (asked_of t)))) parents_same
          ∙ words_bytes t valid words_of (asked_begins t word valid) in
          let test =
          subst₂ (λ (z : ℕ → ℕ) (l : List Rule). consistentb z l t.paths (asked_of t) ≡ true) parents_same (arrays_rules t) f in
          let h = puts_answer Verdict.Consistent Verdict.Refused (document_bytes t (start_consistency (asked_of t))) out
          (consistency_agrees t out passes test) (subst (λ (b : List ℕ). Puts (put b out) w after) same p) g in
          consistency_decides t out r after word h.0 h.1

    -- inconsistent: the evidence was put
    pub consistency_shows : consistentb (parent_of parent) (array_rules t) t.paths (asked_of t) ≡ false → (numbers : List ℕ)
        → numbers ≡ inconsistent_numbers (parent_of parent) (array_rules t) t.paths (asked_of t)
        → (w : Written) (r : Verdict) (after : List ℕ) → Puts (put (bytes_of_all (wrapped numbers)) out) w after
        → r ≡ answer_of Verdict.Inconsistent Verdict.Refused w → DecidesConsistency t out r after
    unfolding inconsistent_bytes
    consistency_shows f numbers e w r after p g =
        let test = subst₂ (λ (z : ℕ → ℕ) (l : List Rule). consistentb z l t.paths (asked_of t) ≡ false) parents_same (arrays_rules t) f in
        let are = e ∙ ap₂ (λ (z : ℕ → ℕ) (l : List Rule). inconsistent_numbers z l t.paths (asked_of t)) parents_same (arrays_rules t) in
        let h = puts_answer Verdict.Inconsistent Verdict.Refused (inconsistent_bytes t) out
        (consistency_conflicts t out passes test)
        (collected numbers out (conflict_bounded t word valid (λ c. subst T test c)) are p) g in
        consistency_decides t out r after word h.0 h.1

-- ---- questions

module _ (t : Rules) (kind p q : ℕ) (out : List ℕ) (word : t.required < 2 ^ 64) where
  -- a table that is not valid
  pub ask_refuses : table_passes t ≡ false → AnswersQuestion t kind p q out (Reply.Refused 12 0) out
  ask_refuses e =
      let z = ask_invalid t kind p q out e in
      ask_answers t kind p q out (Reply.Refused 12 0) out word (sym (ap (λ (x : Answered Reply). x.answer) z))
      (sym (ap (λ (x : Answered Reply). x.buffer) z))

  -- a question that cannot be asked
  pub ask_bars : table_passes t ≡ true → askable t kind p q ≡ false → AnswersQuestion t kind p q out (Reply.Refused 13 0) out
  ask_bars passes e =
      let z = ask_unasked t kind p q out passes e in
      ask_answers t kind p q out (Reply.Refused 13 0) out word (sym (ap (λ (x : Answered Reply). x.answer) z))
      (sym (ap (λ (x : Answered Reply). x.buffer) z))

  module _ (passes : table_passes t ≡ true) (can : askable t kind p q ≡ true) (parent : List ℕ)
      (lent : parent ≡ parents_in t.parent t.paths) where
    sound : ValidTable t
    sound = (passes_valid t word).0 passes

    same_parents : parent_of parent ≡ parents_of t
    same_parents = arrays_parents t sound parent lent

    -- yes: the evidence was put
    pub ask_shows : yesb (parent_of parent) (array_rules t) t.paths kind p q ≡ true → (numbers : List ℕ)
        → numbers ≡ evidence_numbers (parent_of parent) (array_rules t) t.paths kind p q → (w : Written) (r : Reply) (after : List ℕ)
        → Puts (put (bytes_of_all (wrapped numbers)) out) w after → r ≡ answer_of Reply.Yes Reply.Refused w
        → AnswersQuestion t kind p q out r after
    unfolding evidence_bytes
    ask_shows f numbers e w r after s g =
        let test = subst₂ (λ (z : ℕ → ℕ) (l : List Rule). yesb z l t.paths kind p q ≡ true) same_parents (arrays_rules t) f in
        let are = e ∙ ap₂ (λ (z : ℕ → ℕ) (l : List Rule). evidence_numbers z l t.paths kind p q) same_parents (arrays_rules t) in
        let b = yes_bounded t sound kind p q (askable_asked t kind p q can) (subst T (sym test) tt) in
        let h = puts_answer Reply.Yes Reply.Refused (evidence_bytes t kind p q) out (ask_yes t kind p q out passes can test)
        (collected numbers out b are s) g in
        ask_answers t kind p q out r after word h.0 h.1

    module _ {R : ℕ → ℕ → ℕ} (words : ReachWords (parent_of parent) (array_rules t) t.paths R) where
      words_in : ReachWords (parents_of t) (rule_list_of t) t.paths R
      words_in = subst₂ (λ (z : ℕ → ℕ) (l : List Rule). ReachWords z l t.paths R) same_parents (arrays_rules t) words

      -- no: the counter-document was put
      pub ask_hands : yesb (parent_of parent) (array_rules t) t.paths kind p q ≡ false → (w : Written) (r : Reply) (after : List ℕ)
          → Puts (put (bytes_of_all (handed_numbers (parent_of parent) t.paths R (array_start t parent kind p q))) out)
          w after
          → r ≡ answer_of Reply.No Reply.Refused w → AnswersQuestion t kind p q out r after
      ask_hands f w r after s g =
          let same : bytes_of_all (handed_numbers (parent_of parent) t.paths R (array_start t parent kind p q))
          ≡ document_bytes t (counter_start t kind p q) =
          ap₂ (λ (z : ℕ → ℕ) (l : List Rule). bytes_of_all (handed_numbers z t.paths R (start_no z l t.paths kind p q)))
          same_parents (arrays_rules t)
          ∙ words_bytes t sound words_in (counter_begins t sound kind p q (askable_asked t kind p q can)).begins in
          let test = subst₂ (λ (z : ℕ → ℕ) (l : List Rule). yesb z l t.paths kind p q ≡ false) same_parents (arrays_rules t) f in
          let h = puts_answer Reply.No Reply.Refused (document_bytes t (counter_start t kind p q)) out
          (ask_no t kind p q out passes can test) (subst (λ (b : List ℕ). Puts (put b out) w after) same s) g in
          ask_answers t kind p q out r after word h.0 h.1
