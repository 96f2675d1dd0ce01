-- The calls: from a table that passed its test to what they promise.
use Prim.Native.Nat.{ℕ, ◌^◌, ◌<◌, ◌≤◌}
use mathlib.Core.Path.{◌≡◌, sym, ap, subst, ◌∙◌}
use mathlib.Core.Bool.{Bool, true, false, not}
use borrow.Author.Tests.{not-true, not-false}
use mathlib.Core.List.{List, [], ◌∷◌, ◌++◌}
use native.Mathlib.Omega.{arith}
use Rattle.files.specs.declared.rules.Rules.{Rules}
use Rattle.files.specs.Writing.{Written, put, wrapped, Puts}
use Rattle.files.specs.Number.{bytes_of_all}
use Rattle.files.specs.Rules.{rules_of, parents_in, ValidTable}
use Rattle.files.specs.TableTest.{table_passes}
use Rattle.files.specs.Sets.{with_path}
use Rattle.files.proofs.TableTests.{passes_valid}
use Rattle.documents.specs.Judgement.{parents_of}
use Rattle.theory.specs.Reachable.{Fits, reachable}
use Rattle.theory.specs.Evidence.{consistentb}
use Rattle.theory.specs.Decide.{clashing}
use Rattle.theory.specs.Handed.{handed_numbers}
use Rattle.theory.proofs.HandedDocuments.{reachable_words}
use Rattle.theory.proofs.HandedRows.{Begins}
use Rattle.reachable.specs.Arrays.{parent_of, rule_list, Parents, Sound}
use Rattle.reachable.specs.Sheet.{laid}
use Rattle.reachable.specs.SheetWords.{LaidOut, Says}
use Rattle.reachable.specs.Grow.{sheet_of}
use Rattle.reachable.proofs.Filling.{sound_fits}
use Rattle.reachable.proofs.RuleRows.{Kinds}
use Rattle.reachable.proofs.Sheets.{laid_out, sheet_says}
use Rattle.evidence.specs.declared.ground.Ground.{Ground}
use Rattle.evidence.specs.Stored.{Stored}
use Rattle.evidence.specs.Choices.{clashing_in}
use Rattle.std.specs.Prelude.{Option, Some, None, is_some}
use Rattle.evidence.specs.Grounds.{InRange, conflict_ground, ground_numbers}
use Rattle.evidence.proofs.Joins.{clashing_same}
use Rattle.evidence.proofs.GroundJoins.{conflict_given, conflict_written, conflict_in}
use Rattle.handed.specs.Writer.{start_of, document_in}
use Rattle.handed.proofs.WrittenDocument.{document_written}
use Rattle.reasoning.specs.Verdict.{Verdict}
use Rattle.reasoning.specs.Calls.{answer_of, DecidesConsistency}
use Rattle.reasoning.specs.Lent.{Passed, Witnessed, Told}
use Rattle.reasoning.proofs.CallLaws.{consistency_refuses, consistency_hands, consistency_shows}
use Rattle.reasoning.proofs.ConsistencyJoins.{asked_begins}
use Rattle.reasoning.proofs.TableArrays.{arrays_sound, arrays_parents, arrays_rules}

-- ---- a table that passed its test

module _ (t : Rules) (word : t.required < 2 ^ 64) (parent : List ℕ) (h : Passed t parent) where
  valid : ValidTable t
  valid = (passes_valid t word).0 h.passes

  pub passed_sound : Sound parent t.kind t.left t.right t.paths t.rules
  passed_sound = arrays_sound t valid parent h.lent

  pub passed_parents : Parents parent t.paths
  passed_parents = passed_sound.parents

  pub passed_counts : (t.paths ≤ 64) × (t.rules ≤ 256)
  passed_counts = (passed_sound.parents.few, passed_sound.few_rules)

  pub passed_fits : Fits (parent_of parent) (rule_list t.kind t.left t.right t.rules) t.paths
  passed_fits = sound_fits passed_sound

  kinds : Kinds (rule_list t.kind t.left t.right t.rules)
  kinds r ru n = omega (arith, (valid.valid.kind r ru (rw (arrays_rules t) at n)).1)

  -- its sheet says what the table says
  pub passed_laid : (sheet : List ℕ) → sheet ≡ laid (parent_of parent) (rule_list t.kind t.left t.right t.rules) t.paths
      → LaidOut (parent_of parent) (rule_list t.kind t.left t.right t.rules) t.paths sheet
  passed_laid sheet e = rw e (laid_out passed_fits passed_sound.parents.some kinds)

  module _ (sheet : List ℕ) (e : sheet ≡ sheet_of (parent_of parent) (rule_list t.kind t.left t.right t.rules) t.paths) where
    pub passed_says : Says (parent_of parent) (rule_list t.kind t.left t.right t.rules) t.paths sheet
    passed_says = rw e (sheet_says passed_fits passed_sound.parents.some passed_sound.parents.shallow kinds)

    pub passed_clash : (clash : ℕ) → clash ≡ clashing_in sheet
        → clash ≡ clashing (parent_of parent) (rule_list t.kind t.left t.right t.rules) t.paths
    passed_clash clash c = c ∙ clashing_same passed_fits passed_sound.parents.some passed_says

    module _ (clash : ℕ) (c : clash ≡ clashing_in sheet) (needed : ℕ) (f : needed ≡ with_path t.required 0) (g : Option Ground)
        (is : g ≡ conflict_ground sheet clash needed) where
      agrees : not (consistentb (parent_of parent) (rule_list t.kind t.left t.right t.rules) t.paths needed) ≡ is_some g
      agrees = sym (ap is_some is ∙ conflict_given passed_fits passed_sound.parents.some passed_says needed clash (passed_clash clash c))

      passed_witnessed : g ≡ None → Witnessed t parent sheet needed
      passed_witnessed z = record { lent = record { passed = h; laid = e }; needed_is = f; agrees = not-false _ (rw z at agrees) }

      module _ (k : Ground) (some : g ≡ Some k) where
        pub passed_range : InRange (Some k)
        passed_range =
            subst InRange (sym is ∙ some) (conflict_in passed_fits passed_sound.parents.some passed_says needed clash (passed_clash clash c))

        pub passed_conflict : (out : List ℕ) (r : Verdict) (after : List ℕ)
            → Told Verdict.Inconsistent Verdict.Refused (ground_numbers sheet (Some k)) out r after → DecidesConsistency t out r after
        passed_conflict out r after w =
            let no : consistentb (parent_of parent) (rule_list t.kind t.left t.right t.rules) t.paths needed ≡ false =
            not-true _ (rw some at agrees) in
            consistency_shows t out word h.passes parent h.lent
            (rw f at no)
            (ground_numbers sheet (Some k))
            (rw f at (ap (ground_numbers sheet) (sym some ∙ is)
            ∙ conflict_written passed_fits passed_sound.parents.some passed_says needed clash (passed_clash clash c) no))
            w.written r after w.puts w.is

-- ---- a consistent table: its witness was put

module _ (t : Rules) (word : t.required < 2 ^ 64) (parent sheet : List ℕ) (needed : ℕ) (h : Witnessed t parent sheet needed) where
  table_valid : ValidTable t
  table_valid = (passes_valid t word).0 h.lent.passed.passes

  begins : Begins (parent_of parent) t.paths (0 ∷ (rules_of t).required) (start_of needed 0)
  begins =
      subst (λ (p : ℕ → ℕ). Begins p t.paths (0 ∷ (rules_of t).required) (start_of needed 0))
      (sym (arrays_parents t table_valid parent h.lent.passed.lent))
      (subst (λ (a : ℕ). Begins (parents_of t) t.paths (0 ∷ (rules_of t).required) (start_of a 0)) (sym h.needed_is) (asked_begins t word table_valid))

  witness_told : (out : List ℕ) (r : Verdict) (after : List ℕ)
      → Told Verdict.Consistent Verdict.Refused (document_in sheet needed 0) out r after → DecidesConsistency t out r after
  witness_told out r after w =
      let fits = passed_fits t word parent h.lent.passed in
      consistency_hands t out word h.lent.passed.passes parent h.lent.passed.lent (reachable_words fits)
      (subst (λ (a : ℕ). consistentb (parent_of parent) (rule_list t.kind t.left t.right t.rules) t.paths a ≡ true) h.needed_is h.agrees)
      w.written r after
      (subst (λ (a : ℕ). Puts (put (bytes_of_all (handed_numbers (parent_of parent) t.paths
      (reachable (parent_of parent) (rule_list t.kind t.left t.right t.rules) t.paths) (start_of a 0))) out) w.written after)
      h.needed_is
      (document_written fits (passed_sound t word parent h.lent.passed).parents.shallow needed 0 begins sheet out after w.written h.lent.laid
      w.puts))
      w.is

-- a table that passed its test and whose ground of conflict is none: its witness was put
module _ (t : Rules) (word : t.required < 2 ^ 64) (parent : List ℕ) (h : Passed t parent) (sheet : List ℕ)
    (e : sheet ≡ sheet_of (parent_of parent) (rule_list t.kind t.left t.right t.rules) t.paths) (clash : ℕ) (c : clash ≡ clashing_in sheet)
    (needed : ℕ) (f : needed ≡ with_path t.required 0) (g : Option Ground) (is : g ≡ conflict_ground sheet clash needed) where
  pub passed_witness : (out : List ℕ) (r : Verdict) (after : List ℕ) → g ≡ None
      → Told Verdict.Consistent Verdict.Refused (document_in sheet needed 0) out r after → DecidesConsistency t out r after
  passed_witness out r after z w = witness_told t word parent sheet needed (passed_witnessed t word parent h sheet e clash c needed f g is z) out r after w

-- ---- evidence that was collected

pub told : {A : Type 0} (done : ℕ → A) (refused : ℕ → ℕ → A) (ns before numbers lent out : List ℕ) (most : ℕ) → before ≡ [] → Stored ns most before numbers
    → lent ≡ numbers → (w : Written) (r : A) (after : List ℕ) → Puts (put (bytes_of_all (wrapped lent)) out) w after → r ≡ answer_of done refused w
    → Told done refused ns out r after
told done refused ns before numbers lent out most none s is w r after p g = record {
  written = w;
  puts = subst (λ (l : List ℕ). Puts (put (bytes_of_all (wrapped l)) out) w after) (is ∙ s.numbers ∙ ap (λ (l : List ℕ). l ++ ns) none) p;
  is = g;
}

-- ---- the test of the table

pub invalid_refused : (t : Rules) (out : List ℕ) → t.required < 2 ^ 64 → (b : Bool) → b ≡ table_passes t → not b ≡ true → DecidesConsistency t out (Verdict.Refused 12 0) out
invalid_refused t out word b e f = consistency_refuses t out word (sym e ∙ not-true b f)

pub valid_passed : (t : Rules) (parent : List ℕ) (b : Bool) → b ≡ table_passes t → not b ≡ false → parent ≡ parents_in t.parent t.paths → Passed t parent
valid_passed t parent b e f g = record { passes = sym e ∙ not-false b f; lent = g }
