-- Laws of checking a document as a whole: refusal 12, then 14, then the file's, then the verdict.
use Prim.Native.Nat.{ℕ, zero, suc, ◌+◌, ◌<◌, ◌≤◌}
use mathlib.Core.Path.{◌≡◌, sym, ap, subst, ◌∙◌}
use mathlib.Core.Bool.{Bool, true, false, not}
use mathlib.Core.List.{List, Memᴰ}
use native.Mathlib.Omega.{arith}
use lib.ListN.{length, get_or}
use borrow.Author.Tests.{lt-ltb, le-ltb, not-true, not-false}
use Rattle.files.specs.declared.rules.Rules.{Rules}
use Rattle.files.specs.Format.{refused, run_all}
use Rattle.files.specs.Rules.{rules_of, parents_in}
use Rattle.files.specs.Table.{parent_in}
use Rattle.files.specs.TableTest.{table_passes}
use Rattle.documents.specs.Answers.{Checked, Refused}
use Rattle.documents.specs.declared.document.Parts.{Parts}
use Rattle.documents.specs.PartList.{part_limit, Entry, entry_path, entry_kids, document_file}
use Rattle.documents.specs.Reading.{parent_at, kids_at, entries_from, DocumentIs}
use Rattle.documents.specs.Checking.{held, broken_from, verdict, judged, check_answer}
use Rattle.documents.specs.Held.{Laid}
use Rattle.documents.proofs.Climbing.{parents_is}
use Rattle.documents.proofs.PartLists.{entries_length}
use Rattle.documents.proofs.ValidLists.{Good, read_good, small, above, inside}

entries_path : (s path place : List ℕ) (n k i : ℕ) → i < k → entry_path (entries_from s path place n k) i ≡ get_or path (n + i) 0
unfolding entries_from entry_path
entries_path s path place n zero i h = absurd (omega arith)
entries_path s path place n (suc k) zero h = let e : n ≡ n + 0 = omega arith in ap (λ (m : ℕ). get_or path m 0) e
entries_path s path place n (suc k) (suc i) h =
    let e : n + 1 + i ≡ n + suc i = omega arith in
    entries_path s path place (n + 1) k i (omega arith) ∙ ap (λ (m : ℕ). get_or path m 0) e

entries_kids : (s path place : List ℕ) (n k i : ℕ) → i < k → entry_kids (entries_from s path place n k) i ≡ kids_at s (get_or place (n + i) 0)
unfolding entries_from entry_kids
entries_kids s path place n zero i h = absurd (omega arith)
entries_kids s path place n (suc k) zero h = let e : n ≡ n + 0 = omega arith in ap (λ (m : ℕ). kids_at s (get_or place m 0)) e
entries_kids s path place n (suc k) (suc i) h =
    let e : n + 1 + i ≡ n + suc i = omega arith in
    entries_kids s path place (n + 1) k i (omega arith) ∙ ap (λ (m : ℕ). kids_at s (get_or place m 0)) e

-- ---- the parts that were read, judged

module _ (t : Rules) (s : List ℕ) (parent : List ℕ) (few : t.paths ≤ 64) (parents : parent ≡ parents_in t.parent t.paths) where
  -- the document's format, in the words of the code and of the table
  file_is : run_all (document_file (parent_at parent) t.paths) s ≡ run_all (document_file (parent_in (rules_of t).paths) t.paths) s
  unfolding rules_of
  file_is = ap (λ (p : ℕ → ℕ). run_all (document_file p t.paths) s) (parents_is t.parent t.label t.paths parent few parents)

  pub check_refused : {k at : ℕ} → run_all (document_file (parent_at parent) t.paths) s ≡ refused k at
      → Refused k at ≡ judged (parent_in (rules_of t).paths) (rules_of t).rules t.required
      (run_all (document_file (parent_in (rules_of t).paths) t.paths) s)
  unfolding judged
  check_refused e = ap (judged (parent_in (rules_of t).paths) (rules_of t).rules t.required) (sym (sym file_is ∙ e))

  module _ (parts : Parts) (is : DocumentIs s (run_all (document_file (parent_at parent) t.paths) s) parts) where
    -- the parts that the arrays have
    es : List Entry
    es = entries_from s parts.path parts.place 0 parts.count

    pub check_some : 1 ≤ parts.count
    check_some = is.some

    pub check_most : parts.count ≤ part_limit
    check_most = is.most

    pub check_laid : ((i : ℕ) → get_or s i 0 < 256) → Laid s parts.path parts.place parts.count
    unfolding es
    check_laid bytes =
        record {
          small = λ i h.
              subst (λ (x : ℕ). x < 64) (entries_path s parts.path parts.place 0 parts.count i h ∙ ap (λ (m : ℕ). get_or parts.path m 0) (zeroed i))
              (small (parent_at parent) t.paths few es good i (omega (arith, long)));
          later = λ i k h m.
              let n : Memᴰ k (entry_kids es i) =
              subst (λ (l : List ℕ). Memᴰ k l)
              (sym (entries_kids s parts.path parts.place 0 parts.count i h ∙ ap (λ (m : ℕ). kids_at s (get_or parts.place m 0)) (zeroed i))) m in (
                above (parent_at parent) t.paths few es good i k (omega (arith, long)) n,
                omega (arith, long, inside (parent_at parent) t.paths few es good i k (omega (arith, long)) n),
              );
        }
      where
        zeroed : (i : ℕ) → 0 + i ≡ i
        zeroed i = omega arith

        long : length es ≡ parts.count
        long = entries_length s parts.path parts.place 0 parts.count

        good : Good (parent_at parent) t.paths few es
        good = read_good (parent_at parent) t.paths few es s (record { below = bytes }) is.after is.answer

    pub check_is : (q : Checked)
        → q ≡ verdict t.required (get_or (held (entries_from s parts.path parts.place 0 parts.count)) 0 0)
        (broken_from (parent_at parent) 0 (rules_of t).rules (entries_from s parts.path parts.place 0 parts.count)
        (held (entries_from s parts.path parts.place 0 parts.count)))
        → q ≡ judged (parent_in (rules_of t).paths) (rules_of t).rules t.required
        (run_all (document_file (parent_in (rules_of t).paths) t.paths) s)
    unfolding judged es rules_of
    check_is q g =
        g
        ∙ ap (λ (p : ℕ → ℕ). verdict t.required (get_or (held (entries_from s parts.path parts.place 0 parts.count)) 0 0)
        (broken_from p 0 (rules_of t).rules (entries_from s parts.path parts.place 0 parts.count)
        (held (entries_from s parts.path parts.place 0 parts.count))))
        (parents_is t.parent t.label t.paths parent few parents)
        ∙ ap (judged (parent_in (rules_of t).paths) (rules_of t).rules t.required) (sym is.answer ∙ file_is)

pub ruleset parts_laws = (check_refused, check_some, check_most, check_laid, check_is)

-- ---- the order of the refusals

module _ (t : Rules) (s : List ℕ) (v : Bool) (e : v ≡ table_passes t) where
  pub check_12 : not v ≡ true → Refused 12 0 ≡ check_answer t s
  unfolding check_answer
  check_12 h = rw (← e, not-true v h)

  module _ (h : not v ≡ false) where
    pub check_14 : 65536 < length s → Refused 14 0 ≡ check_answer t s
    unfolding check_answer
    check_14 l = rw (← e, not-false v h, lt-ltb 65536 (length s) l)

    pub check_file : (r : Checked) → length s ≤ 65536
        → r ≡ judged (parent_in (rules_of t).paths) (rules_of t).rules t.required
        (run_all (document_file (parent_in (rules_of t).paths) t.paths) s)
        → r ≡ check_answer t s
    unfolding check_answer
    check_file r l f = rw (← e, not-false v h, le-ltb 65536 (length s) l) f

pub ruleset answer_laws = (check_12, check_14, check_file)
