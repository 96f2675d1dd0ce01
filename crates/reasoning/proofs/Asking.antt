-- Questions: from a table that passed its test to what the call promises.
use Prim.Native.Nat.{ℕ, ◌^◌, ◌<◌, ◌≤◌}
use mathlib.Core.Path.{◌≡◌, refl, sym, ap, subst, ◌∙◌}
use mathlib.Core.Bool.{Bool, true, false, not}
use mathlib.Core.List.{List, ◌++◌, append-nil}
use native.Mathlib.Omega.{arith}
use native.Mathlib.Decide.{ℕ_discrete}
use borrow.Author.Tests.{eq-eqb, ne_eqb, not-true, not-false}
use Rattle.files.specs.declared.rules.Rules.{Rules}
use Rattle.files.specs.Writing.{Written, put, wrapped, Puts}
use Rattle.files.specs.Number.{bytes_of_all}
use Rattle.files.specs.Rules.{parents_in, ValidTable}
use Rattle.files.specs.Sets.{with_path}
use Rattle.files.specs.TableTest.{table_passes}
use Rattle.files.proofs.TableTests.{passes_valid}
use Rattle.documents.specs.Judgement.{parents_of}
use Rattle.documents.specs.Paths.{context_of}
use Rattle.theory.specs.Reachable.{reachb, reachable}
use Rattle.theory.specs.Decide.{clashing}
use Rattle.theory.specs.Evidence.{impliesb, yesb, implication_numbers, evidence_numbers}
use Rattle.theory.specs.Handed.{handed_numbers, Start, start_no, start_both}
use Rattle.theory.proofs.HandedRows.{Begins}
use Rattle.reachable.specs.Arrays.{parent_of, rule_list}
use Rattle.reachable.specs.Sheet.{context_in, laid}
use Rattle.reachable.specs.Grow.{with_sets, sheet_of}
use Rattle.std.specs.Prelude.{Some, None, is_some}
use Rattle.evidence.specs.declared.ground.Ground.TheVariants.{Direct}
use Rattle.evidence.specs.declared.ground.Both.{Both}
use Rattle.evidence.specs.Choices.{clashing_in}
use Rattle.evidence.specs.Grounds.{says_yes, InRange, direct_in, grounds_on, ground_numbers}
use Rattle.evidence.proofs.Walking.{context_same, direct_same, direct_numbers_lem}
use Rattle.evidence.proofs.GroundJoins.{none_range, direct_range, question_yes, question_written, question_in, question_there}
use Rattle.handed.specs.Writer.{start_of, document_in}
use Rattle.handed.proofs.WrittenDocument.{document_written}
use Rattle.theory.proofs.HandedDocuments.{reachable_words}
use Rattle.reasoning.specs.Reply.{Reply}
use Rattle.reasoning.specs.declared.question.Begins.{Begins as Beginning}
use Rattle.reasoning.specs.Calls.{askable, answer_of, AnswersQuestion}
use Rattle.reasoning.specs.Lent.{PassedQuestion, LentQuestion, Denied, Told, counter_on, counter_numbers}
use Rattle.reasoning.proofs.CallLaws.{ask_refuses, ask_bars, ask_shows, ask_hands}
use Rattle.reasoning.proofs.Calling.{passed_sound, passed_fits, passed_laid, passed_says, passed_clash, valid_passed}
use Rattle.reasoning.proofs.QuestionJoins.{askable_asked, counter_begins}
use Rattle.reasoning.proofs.TableArrays.{arrays_parents, arrays_rules}

-- ---- paths that are asked about are among the 64

module _ (t : Rules) (word : t.required < 2 ^ 64) (parent : List ℕ) (kind p q : ℕ) (h : PassedQuestion t parent kind p q) where
  pub asked_low : (p < 64) × (q < 64)
  asked_low =
      let a = askable_asked t kind p q h.can in
      let s = (passed_sound t word parent h.passed).parents in
      (omega (arith, a.first, s.few), omega (arith, a.second, s.few))

  -- ---- an implication that is direct

  module _ (sheet : List ℕ) (e : sheet ≡ laid (parent_of parent) (rule_list t.kind t.left t.right t.rules) t.paths) where
    pub direct_low : InRange (Some (Direct p q)) × InRange None
    direct_low = (direct_range p q asked_low.0 asked_low.1, none_range)

    pub direct_told : (b : Bool) → kind ≡ 1 → b ≡ direct_in sheet p q → b ≡ true → (out : List ℕ) (r : Reply) (after : List ℕ)
        → Told Reply.Yes Reply.Refused (ground_numbers sheet (Some (Direct p q)) ++ ground_numbers sheet None) out r after → AnswersQuestion t kind p q out r after
    unfolding ground_numbers yesb impliesb evidence_numbers implication_numbers
    direct_told b one test z out r after w =
        ask_shows t kind p q out word h.passed.passes h.can parent h.passed.lent
        (rw (yesb, eq-eqb kind 1 one, reach))
        (ground_numbers sheet (Some (Direct p q)) ++ ground_numbers sheet None)
        (rw (append-nil, evidence_numbers, eq-eqb kind 1 one, implication_numbers, reach)
        (direct_numbers_lem (passed_fits t word parent h.passed) (passed_laid t word parent h.passed sheet e) p q (a_first) (a_second)))
        w.written r after w.puts w.is
      where
        a_first : p < t.paths
        a_first = (askable_asked t kind p q h.can).first

        a_second : q < t.paths
        a_second = (askable_asked t kind p q h.can).second

        reach : reachb (parent_of parent) (rule_list t.kind t.left t.right t.rules) t.paths (context_of (parent_of parent) p q) p q ≡ true
        reach =
            sym (direct_same (passed_fits t word parent h.passed) (passed_laid t word parent h.passed sheet e) p q a_first a_second)
            ∙ sym test ∙ z

    -- with all sets it is the table's sheet
    pub grown_asked : (grown : List ℕ) → grown ≡ with_sets t.paths sheet → LentQuestion t parent grown kind p q
    unfolding sheet_of
    grown_asked grown f = record {
      lent = record { passed = h.passed; laid = f ∙ ap (with_sets t.paths) e };
      can = h.can;
    }

-- ---- by grounds

module _ (t : Rules) (word : t.required < 2 ^ 64) (parent sheet : List ℕ) (kind p q : ℕ) (h : LentQuestion t parent sheet kind p q) where
  pub settle_low : (p < 64) × (q < 64)
  settle_low = asked_low t word parent kind p q (record { passed = h.lent.passed; can = h.can })

  module _ (clash : ℕ) (c : clash ≡ clashing_in sheet) (b : Both) (is : b ≡ grounds_on sheet clash kind p q) where
    a_first : p < t.paths
    a_first = (askable_asked t kind p q h.can).first

    a_second : q < t.paths
    a_second = (askable_asked t kind p q h.can).second

    low : 1 ≤ kind
    low = (askable_asked t kind p q h.can).low

    high : kind ≤ 3
    high = (askable_asked t kind p q h.can).high

    some : 0 < t.paths
    some = (passed_sound t word parent h.lent.passed).parents.some

    clash_is : clash ≡ clashing (parent_of parent) (rule_list t.kind t.left t.right t.rules) t.paths
    clash_is = passed_clash t word parent h.lent.passed sheet h.lent.laid clash c

    pub settle_range : InRange b.first × InRange b.second
    settle_range =
        rw is (question_in (passed_fits t word parent h.lent.passed) some (passed_says t word parent h.lent.passed sheet h.lent.laid)
        clash clash_is kind p q a_first a_second low high)

    module _ (y : Bool) (test : y ≡ says_yes kind b) where
      answers : yesb (parent_of parent) (rule_list t.kind t.left t.right t.rules) t.paths kind p q ≡ y
      answers =
          sym (test ∙ ap (says_yes kind) is
          ∙ question_yes (passed_fits t word parent h.lent.passed) some (passed_says t word parent h.lent.passed sheet h.lent.laid)
          clash clash_is kind p q a_first a_second low high)

      pub settle_yes : y ≡ true → (out : List ℕ) (r : Reply) (after : List ℕ)
          → Told Reply.Yes Reply.Refused (ground_numbers sheet b.first ++ ground_numbers sheet b.second) out r after
          → AnswersQuestion t kind p q out r after
      settle_yes z out r after w =
          ask_shows t kind p q out word h.lent.passed.passes h.can parent h.lent.passed.lent (answers ∙ z)
          (ground_numbers sheet b.first ++ ground_numbers sheet b.second)
          (rw is (question_written (passed_fits t word parent h.lent.passed) some
          (passed_says t word parent h.lent.passed sheet h.lent.laid) clash clash_is kind p q a_first a_second low high (answers ∙ z)))
          w.written r after w.puts w.is

      pub settle_no : y ≡ false → (holds : Bool) → holds ≡ is_some b.first → Denied t parent sheet kind p q holds
      settle_no z holds e = record {
        asked = h;
        denies = answers ∙ z;
        there = λ k.
            e ∙ ap (λ (v : Both). is_some v.first) is
            ∙ question_there (passed_fits t word parent h.lent.passed) some (passed_says t word parent h.lent.passed sheet h.lent.laid)
            clash clash_is kind p q a_first a_second low high (λ d. omega arith) (λ d. omega arith);
      }

-- ---- no

-- what a counter-document begins with, by the kind, in the words of the code
module _ (sheet : List ℕ) (kind p q : ℕ) (holds : Bool) where
  pub counter_absence : (one goals top : ℕ) → kind ≡ 2 → top ≡ context_in sheet p q → one ≡ with_path 0 q → goals ≡ with_path one p
      → record { goals = goals; top = top } ≡ counter_on sheet kind p q holds
  unfolding counter_on
  counter_absence one goals top k e f g = rw (counter_on, eq-eqb kind 2 k, g, f, e)

  module _ (n : kind ≡ 2 → ⊥) where
    pub counter_second : (goals : ℕ) → kind ≡ 3 → holds ≡ true → goals ≡ with_path 0 q → record { goals = goals; top = q } ≡ counter_on sheet kind p q holds
    unfolding counter_on
    counter_second goals k z e = rw (counter_on, ne_eqb kind 2 n, eq-eqb kind 3 k, z, e)

    pub counter_first : (goals : ℕ) → kind ≡ 3 → holds ≡ false → goals ≡ with_path 0 p → record { goals = goals; top = p } ≡ counter_on sheet kind p q holds
    unfolding counter_on
    counter_first goals k z e = rw (counter_on, ne_eqb kind 2 n, eq-eqb kind 3 k, z, e)

    pub counter_implication : (goals : ℕ) → (kind ≡ 3 → ⊥) → goals ≡ with_path 0 p → record { goals = goals; top = p } ≡ counter_on sheet kind p q holds
    unfolding counter_on
    counter_implication goals m e = rw (counter_on, ne_eqb kind 2 n, ne_eqb kind 3 m, e)

module _ (t : Rules) (word : t.required < 2 ^ 64) (parent sheet : List ℕ) (kind p q : ℕ) (holds : Bool) (h : Denied t parent sheet kind p q holds) where
  pub no_low : (p < 64) × (q < 64)
  no_low = settle_low t word parent sheet kind p q h.asked

  module _ (b : Beginning) (is : b ≡ counter_on sheet kind p q holds) where
    valid : ValidTable t
    valid = (passes_valid t word).0 h.asked.lent.passed.passes

    -- the code's beginning is the counter-document's
    start_is : start_of b.goals b.top
        ≡ start_no (parent_of parent) (rule_list t.kind t.left t.right t.rules) t.paths kind p q
    unfolding counter_on start_no start_both
    start_is = ap (λ (v : Beginning). start_of v.goals v.top) is ∙ pick (ℕ_discrete kind 1) (ℕ_discrete kind 2)
      where
        asked_of : (p < t.paths) × (q < t.paths) × (1 ≤ kind) × (kind ≤ 3)
        asked_of = let a = askable_asked t kind p q h.asked.can in (a.first, a.second, a.low, a.high)

        same : context_in sheet p q ≡ context_of (parent_of parent) p q
        same =
            context_same (passed_fits t word parent h.asked.lent.passed)
            (passed_says t word parent h.asked.lent.passed sheet h.asked.lent.laid).laid p q asked_of.0 asked_of.1

        to_start : (v : Beginning) → v ≡ counter_on sheet kind p q holds
            → start_of v.goals v.top ≡ start_no (parent_of parent) (rule_list t.kind t.left t.right t.rules) t.paths kind p q
            → start_of (counter_on sheet kind p q holds).goals (counter_on sheet kind p q holds).top
            ≡ start_no (parent_of parent) (rule_list t.kind t.left t.right t.rules) t.paths kind p q
        to_start v e f = ap (λ (u : Beginning). start_of u.goals u.top) (sym e) ∙ f

        way : (v : Bool) → kind ≡ 3 → (kind ≡ 1 → ⊥) → (kind ≡ 2 → ⊥) → holds ≡ v
            → start_of (counter_on sheet kind p q holds).goals (counter_on sheet kind p q holds).top
            ≡ start_no (parent_of parent) (rule_list t.kind t.left t.right t.rules) t.paths kind p q
        way true k n m e =
            let z : impliesb (parent_of parent) (rule_list t.kind t.left t.right t.rules) t.paths p q ≡ true = sym (h.there k) ∙ e in
            to_start (record { goals = with_path 0 q; top = q }) (counter_second sheet kind p q holds m (with_path 0 q) k e refl)
            (rw (start_no, ne_eqb kind 1 n, ne_eqb kind 2 m, start_both, z))
        way false k n m e =
            let z : impliesb (parent_of parent) (rule_list t.kind t.left t.right t.rules) t.paths p q ≡ false = sym (h.there k) ∙ e in
            to_start (record { goals = with_path 0 p; top = p }) (counter_first sheet kind p q holds m (with_path 0 p) k e refl)
            (rw (start_no, ne_eqb kind 1 n, ne_eqb kind 2 m, start_both, z))

        pick : Dec (kind ≡ 1) → Dec (kind ≡ 2)
            → start_of (counter_on sheet kind p q holds).goals (counter_on sheet kind p q holds).top
            ≡ start_no (parent_of parent) (rule_list t.kind t.left t.right t.rules) t.paths kind p q
        pick (yes e) d =
            to_start (record { goals = with_path 0 p; top = p })
            (counter_implication sheet kind p q holds (λ z. omega arith) (with_path 0 p) (λ z. omega arith) refl)
            (rw (start_no, eq-eqb kind 1 e))
        pick (no n) (yes e) =
            to_start (record { goals = with_path (with_path 0 q) p; top = context_in sheet p q })
            (counter_absence sheet kind p q holds (with_path 0 q) (with_path (with_path 0 q) p) (context_in sheet p q) e refl refl refl)
            (rw (start_no, ne_eqb kind 1 n, eq-eqb kind 2 e, same))
        pick (no n) (no m) = way holds (omega (arith, n, m, asked_of.2, asked_of.3)) n m refl

    begins : (list : List ℕ) × Begins (parent_of parent) t.paths list (start_of b.goals b.top)
    begins =
        let a = askable_asked t kind p q h.asked.can in
        let n = counter_begins t valid kind p q a in (
          n.goals,
          subst (λ (s : Start). Begins (parent_of parent) t.paths n.goals s) (sym start_is)
              (subst (λ (f : ℕ → ℕ). Begins f t.paths n.goals (start_no f (rule_list t.kind t.left t.right t.rules) t.paths kind p q))
              (sym (arrays_parents t valid parent h.asked.lent.passed.lent))
              (subst (λ (l : List _). Begins (parents_of t) t.paths n.goals (start_no (parents_of t) l t.paths kind p q)) (sym (arrays_rules t))
              n.begins)),
        )

    -- the counter-document was put
    counter_put : (out : List ℕ) (w : Written) (r : Reply) (after : List ℕ)
        → Puts (put (bytes_of_all (wrapped (document_in sheet b.goals b.top))) out) w after
        → r ≡ answer_of Reply.No Reply.Refused w → AnswersQuestion t kind p q out r after
    counter_put out w r after f g =
        let fits = passed_fits t word parent h.asked.lent.passed in
        ask_hands t kind p q out word h.asked.lent.passed.passes h.asked.can parent h.asked.lent.passed.lent (reachable_words fits)
        h.denies w r after
        (subst (λ (s : Start). Puts (put (bytes_of_all (handed_numbers (parent_of parent) t.paths
        (reachable (parent_of parent) (rule_list t.kind t.left t.right t.rules) t.paths) s)) out) w after) start_is
        (document_written fits (passed_sound t word parent h.asked.lent.passed).parents.shallow b.goals b.top begins.1 sheet out after w
        h.asked.lent.laid f))
        g

  pub counter_told : (out : List ℕ) (r : Reply) (after : List ℕ)
      → Told Reply.No Reply.Refused (counter_numbers sheet kind p q holds) out r after → AnswersQuestion t kind p q out r after
  unfolding counter_numbers
  counter_told out r after w = counter_put (counter_on sheet kind p q holds) refl out w.written r after w.puts w.is

-- the document that begins as it should was put
pub begun_told : (sheet out : List ℕ) (kind p q : ℕ) (holds : Bool) (b : Beginning) → b ≡ counter_on sheet kind p q holds
    → (w : Written) (r : Reply) (after : List ℕ) → Puts (put (bytes_of_all (wrapped (document_in sheet b.goals b.top))) out) w after
    → r ≡ answer_of Reply.No Reply.Refused w → Told Reply.No Reply.Refused (counter_numbers sheet kind p q holds) out r after
unfolding counter_numbers
begun_told sheet out kind p q holds b e w r after f g = record {
  written = w;
  puts = subst (λ (v : Beginning). Puts (put (bytes_of_all (wrapped (document_in sheet v.goals v.top))) out) w after) e f;
  is = g;
}

-- ---- a question that can be asked, of a table that passed its test

pub invalid_barred : (t : Rules) (kind p q : ℕ) (out : List ℕ) → t.required < 2 ^ 64 → (b : Bool) → b ≡ table_passes t → not b ≡ true
    → AnswersQuestion t kind p q out (Reply.Refused 12 0) out
invalid_barred t kind p q out word b e f = ask_refuses t kind p q out word (sym e ∙ not-true b f)

pub unasked_barred : (t : Rules) (kind p q : ℕ) (out : List ℕ) → t.required < 2 ^ 64 → (b : Bool) → b ≡ table_passes t → not b ≡ false
    → askable t kind p q ≡ false → AnswersQuestion t kind p q out (Reply.Refused 13 0) out
unasked_barred t kind p q out word b e f g = ask_bars t kind p q out word (sym e ∙ not-false b f) g

-- the question that is asked is the one that was put
module _ (t : Rules) (kind p q k x y : ℕ) (can : askable t kind p q ≡ true) (d : kind ≡ k) (e : p ≡ x) (f : q ≡ y) where
  pub question_passed : (parent : List ℕ) (b : Bool) → b ≡ table_passes t → not b ≡ false → parent ≡ parents_in t.parent t.paths → PassedQuestion t parent k x y
  question_passed parent b g h i = record { passed = valid_passed t parent b g h i; can = rw (d, e, f) at can }

  pub question_answered : (out : List ℕ) (r : Reply) (after : List ℕ) → AnswersQuestion t k x y out r after → AnswersQuestion t kind p q out r after
  question_answered out r after a = rw (d, e, f) a
