-- The two calls: what each answers, what the lent buffer then holds, and what that means over all documents.
use Rattle.std.specs.Prelude.{ℕ, ◌≤◌, ◌<◌, ◌≡◌, ◌↔◌, ◌⊎◌, Bool, true, false, ◌&&◌, List, ◌∷◌, ◌++◌, leb, ltb, length, take, drop}
use Rattle.files.specs.declared.rules.Rules.{Rules}
use Rattle.files.specs.Writing.{Written, Length, Refused, Put, put}
use Rattle.files.specs.Format.{got, run_all}
use Rattle.files.specs.Number.{bytes_of_all}
use Rattle.files.specs.Rules.{rules_of, ValidTable}
use Rattle.files.specs.Sets.{with_path}
use Rattle.files.specs.Table.{Rule}
use Rattle.files.specs.TableTest.{table_passes}
use Rattle.documents.specs.Judgement.{parents_of}
use Rattle.documents.specs.Tree.{Forest, Document}
use Rattle.documents.specs.Obey.{ObeysRule, Obeys}
use Rattle.documents.specs.PartList.{Entry, document_file, document_numbers, StandsFor}
use Rattle.reasoning.specs.Verdict.{Verdict}
use Rattle.reasoning.specs.Reply.{Reply}
use Rattle.theory.specs.Reachable.{reachable}
use Rattle.theory.specs.Counter.{CounterGoals, question_of, Counters}
use Rattle.theory.specs.Evidence.{yesb, consistentb, evidence_numbers, inconsistent_numbers, Shows, ShowsInconsistent, Writes, WritesInconsistent}
use Rattle.theory.specs.Follows.{Witnesses, Consistent}
use Rattle.theory.specs.Order.{WritesDocument}
use Rattle.theory.specs.Parts.{part_zero}
use Rattle.theory.specs.Handed.{Start, start_consistency, start_no, handed_numbers}

-- the rules of a table handed in
abbrev pub rule_list_of : Rules → List Rule
rule_list_of t = (rules_of t).rules

-- the set of its required paths, and the root
abbrev pub asked_of : Rules → ℕ
asked_of t = with_path t.required 0

-- an answer with what the lent buffer then holds
pub record Answered (A : Type 0) : Type 0 where
  pub answer : A
  pub buffer : List ℕ

-- the answer of a call that put its bytes into the buffer: by their length, or the refusal
unfoldable pub answer_of : {A : Type 0} (done : ℕ → A) (refused : ℕ → ℕ → A) → Written → A
answer_of done refused (Length n) = done n
answer_of done refused (Refused k at) = refused k at

-- that answer, with the buffer that putting the bytes left
unfoldable pub answered : {A : Type 0} (done : ℕ → A) (refused : ℕ → ℕ → A) → Put → Answered A
answered done refused p = record { answer = answer_of done refused p.answer; buffer = p.buffer }

-- the bytes of the document that begins so
unfoldable pub document_bytes : Rules → Start → List ℕ
document_bytes t start = bytes_of_all (handed_numbers (parents_of t) t.paths (reachable (parents_of t) (rule_list_of t) t.paths) start)

-- the bytes of the evidence that a set is inconsistent
unfoldable pub inconsistent_bytes : Rules → List ℕ
inconsistent_bytes t = bytes_of_all (inconsistent_numbers (parents_of t) (rule_list_of t) t.paths (asked_of t))

-- the bytes of the evidence for a question answered yes
unfoldable pub evidence_bytes : Rules → (kind p q : ℕ) → List ℕ
evidence_bytes t kind p q = bytes_of_all (evidence_numbers (parents_of t) (rule_list_of t) t.paths kind p q)

-- what consistency answers, and the buffer: refusal 12 first, 20 last
unfoldable pub consistency_answer : Rules → List ℕ → Answered Verdict
consistency_answer t out =
    elim (table_passes t) [
      | true ↦ elim (consistentb (parents_of t) (rule_list_of t) t.paths (asked_of t)) [
        | true ↦ answered Verdict.Consistent Verdict.Refused (put (document_bytes t (start_consistency (asked_of t))) out)
        | false ↦ answered Verdict.Inconsistent Verdict.Refused (put (inconsistent_bytes t) out)
      ]
      | false ↦ record { answer = Verdict.Refused 12 0; buffer = out }
    ]

-- whether a question can be asked of a table, computed
unfoldable pub askable : Rules → (kind p q : ℕ) → Bool
askable t kind p q = leb 1 kind && (leb kind 3 && (ltb p t.paths && ltb q t.paths))

-- what the counter-document of a question begins with; a co-occurrence's no shows the first failing direction
abbrev pub counter_start : Rules → (kind p q : ℕ) → Start
counter_start t = start_no (parents_of t) (rule_list_of t) t.paths

-- what a question answers, and the buffer: refusal 12, then 13, 20 last
unfoldable pub ask_answer : Rules → (kind p q : ℕ) → List ℕ → Answered Reply
ask_answer t kind p q out =
    elim (table_passes t) [
      | true ↦ elim (askable t kind p q) [
        | true ↦ elim (yesb (parents_of t) (rule_list_of t) t.paths kind p q) [
          | true ↦ answered Reply.Yes Reply.Refused (put (evidence_bytes t kind p q) out)
          | false ↦ answered Reply.No Reply.Refused (put (document_bytes t (counter_start t kind p q)) out)
        ]
        | false ↦ record { answer = Reply.Refused 13 0; buffer = out }
      ]
      | false ↦ record { answer = Reply.Refused 12 0; buffer = out }
    ]

-- ---- what the answers mean

-- bytes fill the start of a lent buffer, and later bytes are unchanged
pub record Fills (bytes out after : List ℕ) : Type 0 where
  pub fits : length bytes ≤ length out
  pub are : after ≡ bytes ++ drop (length bytes) out

-- the bytes are those of the document that begins with a part 0 of these goals, as 01 writes it down
pub record IsDocument (t : Rules) (goals bytes : List ℕ) : Type 0 where
  pub parts : List Entry
  pub written : WritesDocument (parents_of t) (rule_list_of t) (part_zero goals) parts
  pub are : bytes ≡ bytes_of_all (document_numbers parts)

-- the bytes read back, by the reader of documents, as a list of parts that stands for a document of which this holds
pub record HandsBack (t : Rules) (bytes : List ℕ) (Good : Forest → Type 0) : Type 0 where
  pub parts : List Entry
  pub read : run_all (document_file (parents_of t) t.paths) bytes ≡ got parts (length bytes)
  pub tree : Forest
  pub stands : StandsFor parts tree
  pub good : Good tree

-- the bytes are those of numbers of which this holds
pub record BringsEvidence (bytes : List ℕ) (Shown : List ℕ → Type 0) : Type 0 where
  pub numbers : List ℕ
  pub are : bytes ≡ bytes_of_all numbers
  pub shown : Shown numbers

-- some document of the table obeys its rules and holds its required paths
abbrev pub Agrees : Rules → Type 0
Agrees t = Consistent (parents_of t) (rule_list_of t) t.paths (rules_of t).required

-- the bytes that answer whether the rules of a valid table are consistent: if some document does, the one whose part 0 has
-- goals 0 and every required path; else the evidence that 01 writes for an inconsistent set
pub data VerdictBytes (t : Rules) (bytes : List ℕ) : Type 0 where
  witness : Agrees t → IsDocument t (0 ∷ (rules_of t).required) bytes → VerdictBytes t bytes
  conflict : (Agrees t → ⊥) → BringsEvidence bytes (WritesInconsistent (parents_of t) (rule_list_of t) (asked_of t)) → VerdictBytes t bytes

-- what consistency answers and leaves, case by case
pub data VerdictCase (t : Rules) (out : List ℕ) (r : Verdict) (after : List ℕ) : Type 0 where
  -- 12 at 0: the table is not valid; every byte stays
  not_valid : (ValidTable t → ⊥) → r ≡ Verdict.Refused 12 0 → after ≡ out → VerdictCase t out r after
  -- 20 at 0: the answer is longer than the buffer; every byte stays
  no_room : ValidTable t → (bytes : List ℕ) → VerdictBytes t bytes → length out < length bytes
      → r ≡ Verdict.Refused 20 0 → after ≡ out → VerdictCase t out r after
  -- consistent with so many bytes: some document does, and the one that 01 writes is handed back
  consistent : ValidTable t → Agrees t → (bytes : List ℕ) → IsDocument t (0 ∷ (rules_of t).required) bytes
      → HandsBack t bytes (Witnesses (parents_of t) (rule_list_of t) t.paths (rules_of t).required)
      → r ≡ Verdict.Consistent (length bytes) → Fills bytes out after → VerdictCase t out r after
  -- inconsistent with so many bytes: no document does, and the evidence that 01 writes shows it
  inconsistent : ValidTable t → (Agrees t → ⊥) → (bytes : List ℕ)
      → BringsEvidence bytes (WritesInconsistent (parents_of t) (rule_list_of t) (asked_of t))
      → BringsEvidence bytes (ShowsInconsistent (parents_of t) (rule_list_of t) (asked_of t))
      → r ≡ Verdict.Inconsistent (length bytes) → Fills bytes out after → VerdictCase t out r after

-- a question can be asked of a table: its kind is 1 to 3, and both its paths are in the table
pub record Asked (t : Rules) (kind p q : ℕ) : Type 0 where
  pub low : 1 ≤ kind
  pub high : kind ≤ 3
  pub first : p < t.paths
  pub second : q < t.paths

-- every document of the table that obeys the rules obeys the question
pub record Follows (t : Rules) (question : Rule) : Type 0 where
  pub every : (d : Forest) → Document (parents_of t) t.paths d → Obeys (parents_of t) (rule_list_of t) d → ObeysRule (parents_of t) question d

-- d is a document of the table, obeys the rules and breaks the question
pub record Breaks (t : Rules) (question : Rule) (d : Forest) : Type 0 where
  pub is_document : Document (parents_of t) t.paths d
  pub obeys : Obeys (parents_of t) (rule_list_of t) d
  pub breaks : ObeysRule (parents_of t) question d → ⊥

-- the bytes that answer a question that can be asked of a valid table: the evidence that 01 writes if it follows, else the
-- document whose part 0 has the goals that 01 gives it
pub data ReplyBytes (t : Rules) (kind p q : ℕ) (bytes : List ℕ) : Type 0 where
  evidence : Follows t (question_of kind p q) → BringsEvidence bytes (Writes (parents_of t) (rule_list_of t) kind p q)
      → ReplyBytes t kind p q bytes
  counter : (Follows t (question_of kind p q) → ⊥) → (goals : List ℕ) → CounterGoals (parents_of t) (rule_list_of t) t.paths kind p q goals
      → IsDocument t goals bytes → ReplyBytes t kind p q bytes

-- what a question answers and leaves, case by case
pub data ReplyCase (t : Rules) (kind p q : ℕ) (out : List ℕ) (r : Reply) (after : List ℕ) : Type 0 where
  -- 12 at 0: the table is not valid; every byte stays
  not_valid : (ValidTable t → ⊥) → r ≡ Reply.Refused 12 0 → after ≡ out → ReplyCase t kind p q out r after
  -- 13 at 0: it is valid and the question cannot be asked; every byte stays
  not_asked : ValidTable t → (Asked t kind p q → ⊥) → r ≡ Reply.Refused 13 0 → after ≡ out → ReplyCase t kind p q out r after
  -- 20 at 0: the answer is longer than the buffer; every byte stays
  no_room : ValidTable t → Asked t kind p q → (bytes : List ℕ) → ReplyBytes t kind p q bytes → length out < length bytes
      → r ≡ Reply.Refused 20 0 → after ≡ out → ReplyCase t kind p q out r after
  -- yes with so many bytes: every document that obeys the rules obeys the question, and the evidence that 01 writes shows it
  yes : ValidTable t → Asked t kind p q → Follows t (question_of kind p q) → (bytes : List ℕ)
      → BringsEvidence bytes (Writes (parents_of t) (rule_list_of t) kind p q)
      → BringsEvidence bytes (Shows (parents_of t) (rule_list_of t) kind p q)
      → r ≡ Reply.Yes (length bytes) → Fills bytes out after → ReplyCase t kind p q out r after
  -- no with so many bytes: the document that 01 writes is handed back; it obeys the rules and breaks the question, a
  -- co-occurrence in its first failing direction
  no : ValidTable t → Asked t kind p q → (bytes goals : List ℕ) → CounterGoals (parents_of t) (rule_list_of t) t.paths kind p q goals
      → IsDocument t goals bytes → HandsBack t bytes (Counters (parents_of t) (rule_list_of t) t.paths kind p q)
      → r ≡ Reply.No (length bytes) → Fills bytes out after → ReplyCase t kind p q out r after

-- ---- the contracts

-- what consistency promises, on all tables and buffers
pub record DecidesConsistency (t : Rules) (out : List ℕ) (r : Verdict) (after : List ℕ) : Type 0 where
  -- the answer, and the whole buffer after the call
  pub answer : r ≡ (consistency_answer t out).answer
  pub buffer : after ≡ (consistency_answer t out).buffer
  -- what they mean, by cases
  pub means : VerdictCase t out r after
  -- refusal 12 exactly if the table is not valid; 20 exactly if it is and the answer is longer than the buffer; no other
  -- refusal, and a refusal stands at 0 and leaves every byte
  pub invalid : (r ≡ Verdict.Refused 12 0) ↔ (ValidTable t → ⊥)
  pub short : (r ≡ Verdict.Refused 20 0) ↔ (ValidTable t × ((bytes : List ℕ) × VerdictBytes t bytes × (length out < length bytes)))
  pub refused : (k at : ℕ) → r ≡ Verdict.Refused k at → ((k ≡ 12) ⊎ (k ≡ 20)) × (at ≡ 0) × (after ≡ out)
  -- consistent: some document obeys the rules and holds every required path, and it is handed back
  pub consistent : (n : ℕ) → r ≡ Verdict.Consistent n
      → HandsBack t (take n after) (Witnesses (parents_of t) (rule_list_of t) t.paths (rules_of t).required)
  -- inconsistent: no document does, and the evidence shows it
  pub inconsistent : (n : ℕ) → r ≡ Verdict.Inconsistent n
      → (Agrees t → ⊥) × BringsEvidence (take n after) (ShowsInconsistent (parents_of t) (rule_list_of t) (asked_of t))
  -- the length is within the buffer, and in 65,536 bytes there is room for every answer
  pub within : (n : ℕ) → (r ≡ Verdict.Consistent n) ⊎ (r ≡ Verdict.Inconsistent n) → n ≤ length out
  pub room : 65536 ≤ length out → r ≡ Verdict.Refused 20 0 → ⊥

-- what a question promises, on all tables, questions and buffers
pub record AnswersQuestion (t : Rules) (kind p q : ℕ) (out : List ℕ) (r : Reply) (after : List ℕ) : Type 0 where
  -- the answer, and the whole buffer after the call
  pub answer : r ≡ (ask_answer t kind p q out).answer
  pub buffer : after ≡ (ask_answer t kind p q out).buffer
  -- what they mean, by cases
  pub means : ReplyCase t kind p q out r after
  -- refusal 12 exactly if the table is not valid; 13 exactly if it is and not (kind 1 to 3 and both paths in the table); 20 exactly
  -- if the question can be asked of a valid table and the answer is longer than the buffer; no other refusal, and a refusal stands
  -- at 0 and leaves every byte
  pub invalid : (r ≡ Reply.Refused 12 0) ↔ (ValidTable t → ⊥)
  pub unasked : (r ≡ Reply.Refused 13 0) ↔ (ValidTable t × (Asked t kind p q → ⊥))
  pub short : (r ≡ Reply.Refused 20 0)
      ↔ (ValidTable t × Asked t kind p q × ((bytes : List ℕ) × ReplyBytes t kind p q bytes × (length out < length bytes)))
  pub refused : (k at : ℕ) → r ≡ Reply.Refused k at → ((k ≡ 12) ⊎ ((k ≡ 13) ⊎ (k ≡ 20))) × (at ≡ 0) × (after ≡ out)
  -- yes: every document that obeys the rules obeys the question, and the evidence shows it
  pub yes : (n : ℕ) → r ≡ Reply.Yes n
      → Follows t (question_of kind p q) × BringsEvidence (take n after) (Shows (parents_of t) (rule_list_of t) kind p q)
  -- no: the document handed back obeys the rules and breaks the question, a co-occurrence in its first failing direction
  pub counter : (n : ℕ) → r ≡ Reply.No n → HandsBack t (take n after) (Counters (parents_of t) (rule_list_of t) t.paths kind p q)
  -- the length is within the buffer, and in 65,536 bytes there is room for every answer
  pub within : (n : ℕ) → (r ≡ Reply.Yes n) ⊎ (r ≡ Reply.No n) → n ≤ length out
  pub room : 65536 ≤ length out → r ≡ Reply.Refused 20 0 → ⊥
