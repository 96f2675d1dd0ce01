-- A table that passed its test, as the calls lend it on: its parents in an array of their own, and its sheet.
use Rattle.std.specs.Prelude.{ℕ, ◌≡◌, Bool, true, false, List, eqb}
use Rattle.files.specs.declared.rules.Rules.{Rules}
use Rattle.files.specs.Writing.{Written, put, wrapped, Puts}
use Rattle.files.specs.Number.{bytes_of_all}
use Rattle.files.specs.Rules.{parents_in}
use Rattle.files.specs.Sets.{with_path}
use Rattle.files.specs.TableTest.{table_passes}
use Rattle.reachable.specs.Arrays.{parent_of, rule_list}
use Rattle.reachable.specs.Sheet.{context_in}
use Rattle.reachable.specs.Grow.{sheet_of}
use Rattle.handed.specs.Writer.{document_in}
use Rattle.reasoning.specs.declared.question.Begins.{Begins}
use Rattle.reasoning.specs.Calls.{answer_of, asked_of, askable}
use Rattle.theory.specs.Evidence.{consistentb, impliesb, yesb}

-- the table passed its test, and the array has its parents
pub record Passed (t : Rules) (parent : List ℕ) : Type 0 where
  pub passes : table_passes t ≡ true
  pub lent : parent ≡ parents_in t.parent t.paths

-- and the sheet is that of the table
pub record LentSheet (t : Rules) (parent sheet : List ℕ) : Type 0 where
  pub passed : Passed t parent
  pub laid : sheet ≡ sheet_of (parent_of parent) (rule_list t.kind t.left t.right t.rules) t.paths

-- and it is consistent with the paths needed
pub record Witnessed (t : Rules) (parent sheet : List ℕ) (needed : ℕ) : Type 0 where
  pub lent : LentSheet t parent sheet
  pub needed_is : needed ≡ asked_of t
  pub agrees : consistentb (parent_of parent) (rule_list t.kind t.left t.right t.rules) t.paths needed ≡ true

-- a question that can be asked, of a table that passed its test
pub record PassedQuestion (t : Rules) (parent : List ℕ) (kind p q : ℕ) : Type 0 where
  pub passed : Passed t parent
  pub can : askable t kind p q ≡ true

-- and its sheet is lent
pub record LentQuestion (t : Rules) (parent sheet : List ℕ) (kind p q : ℕ) : Type 0 where
  pub lent : LentSheet t parent sheet
  pub can : askable t kind p q ≡ true

-- it is answered no, and of a co-occurrence the first direction holds or not
pub record Denied (t : Rules) (parent sheet : List ℕ) (kind p q : ℕ) (holds : Bool) : Type 0 where
  pub asked : LentQuestion t parent sheet kind p q
  pub denies : yesb (parent_of parent) (rule_list t.kind t.left t.right t.rules) t.paths kind p q ≡ false
  pub there : kind ≡ 3 → holds ≡ impliesb (parent_of parent) (rule_list t.kind t.left t.right t.rules) t.paths p q

-- the numbers were put into the buffer as bytes, and the answer is made of that
pub record Told {A : Type 0} (done : ℕ → A) (refused : ℕ → ℕ → A) (numbers out : List ℕ) (r : A) (after : List ℕ) : Type 0 where
  pub written : Written
  pub puts : Puts (put (bytes_of_all (wrapped numbers)) out) written after
  pub is : r ≡ answer_of done refused written

-- these goals, with this context
abbrev pub begin : (goals top : ℕ) → Begins
begin goals top = record { goals = goals; top = top }

-- what a counter-document begins with, by the question's kind; of a co-occurrence the second direction's goal if the first holds
unfoldable pub counter_on : (sheet : List ℕ) (kind p q : ℕ) (holds : Bool) → Begins
counter_on sheet kind p q holds =
    elim (eqb kind 2) [
      | true ↦ begin (with_path (with_path 0 q) p) (context_in sheet p q)
      | false ↦ elim (eqb kind 3) [
        | true ↦ elim holds [ true ↦ begin (with_path 0 q) q | false ↦ begin (with_path 0 p) p ]
        | false ↦ begin (with_path 0 p) p
      ]
    ]

-- the numbers of that counter-document
unfoldable pub counter_numbers : (sheet : List ℕ) (kind p q : ℕ) (holds : Bool) → List ℕ
counter_numbers sheet kind p q holds = document_in sheet (counter_on sheet kind p q holds).goals (counter_on sheet kind p q holds).top
