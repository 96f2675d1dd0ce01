-- The whole text that the verdict program prints for the bytes of a rule file: which bytes it is, and what it says.
use Rattle.std.specs.Prelude.{ℕ, ◌+◌, ◌*◌, ◌≤◌, ◌<◌, ◌≡◌, List, [], length, take, replicate}
use Rattle.files.specs.Reading.{Answer, read_answer}
use Rattle.files.specs.declared.rules.Rules.{Rules}
use Rattle.files.specs.Format.{Outcome, got, refused, run_all}
use Rattle.files.specs.Meets.{Meets}
use Rattle.files.specs.RuleFile.{file_of}
use Rattle.files.specs.Rules.{rules_of, ValidTable, table_of}
use Rattle.files.specs.Table.{RuleSet, Valid}
use Rattle.documents.specs.Judgement.{parents_of}
use Rattle.documents.specs.PartList.{Entry, document_file, ValidParts, StandsFor}
use Rattle.documents.specs.Tree.{Forest}
use Rattle.theory.specs.Evidence.{inconsistent_numbers, ShowsInconsistent}
use Rattle.theory.specs.Follows.{Witnesses, Consistent}
use Rattle.listing.specs.Text.{Stored}
use Rattle.listing.specs.Lay.{refused_text, inconsistent_text, consistent_text}
use Rattle.reasoning.specs.Verdict.{Verdict}
use Rattle.reasoning.specs.Calls.{rule_list_of, asked_of, consistency_answer, DecidesConsistency}

-- the room for a document
abbrev pub DOCUMENT : ℕ
DOCUMENT = 65536

-- the room for a text
abbrev pub TEXT : ℕ
TEXT = 4 * 65536 + 64

-- ---- which bytes it is

-- the listing of a part list that was read
unfoldable pub parts_listing : Outcome (List Entry) → List ℕ
parts_listing (got parts at) = consistent_text parts
parts_listing (refused k at) = []

-- the text of a verdict on a table: the listing of the part list that the bytes say, the line of the evidence, or the refusal's
unfoldable pub verdict_text : Rules → Verdict → List ℕ → List ℕ
verdict_text t (Verdict.Consistent n) bytes = parts_listing (run_all (document_file (parents_of t) t.paths) (take n bytes))
verdict_text t (Verdict.Inconsistent n) bytes = inconsistent_text (inconsistent_numbers (parents_of t) (rule_list_of t) t.paths (asked_of t))
verdict_text t (Verdict.Refused k at) bytes = refused_text k at

-- the text of a table: what consistency answers and leaves in a document's room of zeros
unfoldable pub rules_text : Rules → List ℕ
rules_text t = let a = consistency_answer t (replicate DOCUMENT 0) in verdict_text t a.answer a.buffer

-- the text by what reading a file answered
unfoldable pub answer_text : Answer → Rules → List ℕ
answer_text (Answer.Refused k at) t = refused_text k at
answer_text Answer.Accepted t = rules_text t

-- the text of a file
unfoldable pub printed_text : List ℕ → List ℕ
printed_text file = let r = read_answer file in answer_text r.answer r.rules

-- ---- what it says

-- a valid part list that stands for a document of the table that obeys the rules and holds every required path
pub record Witness (t : Rules) (parts : List Entry) : Type 0 where
  pub valid : ValidParts (parents_of t) t.paths parts
  pub tree : Forest
  pub stands : StandsFor parts tree
  pub witnesses : Witnesses (parents_of t) (rule_list_of t) t.paths (rules_of t).required tree

-- numbers that are evidence that no document does, and none does
pub record Conflict (t : Rules) (numbers : List ℕ) : Type 0 where
  pub shown : ShowsInconsistent (parents_of t) (rule_list_of t) (asked_of t) numbers
  pub never : Consistent (parents_of t) (rule_list_of t) t.paths (rules_of t).required → ⊥

-- of a table the text is the listing of a witness, or the line of the evidence of a conflict
pub data SaysOf (t : Rules) (text : List ℕ) : Type 0 where
  lists : (parts : List Entry) → Witness t parts → text ≡ consistent_text parts → SaysOf t text
  shows : (numbers : List ℕ) → Conflict t numbers → text ≡ inconsistent_text numbers → SaysOf t text

-- of a file that meets a refusal the text is that refusal's line, number and offset; of the file of a valid rule set it is that
-- of its table, and so never a refusal
pub data Says (file text : List ℕ) : Type 0 where
  refuses : (number offset : ℕ) → Meets file number offset → text ≡ refused_text number offset → Says file text
  accepts : (rules : RuleSet) → Valid rules → file ≡ file_of rules → SaysOf (table_of rules) text → Says file text

-- what printing promises, on all bytes and blocks
pub record Prints (file out : List ℕ) (r : ℕ) (after : List ℕ) : Type 0 where
  -- with less room than a text may take nothing is written and 0 is returned
  pub short : length out < TEXT → (r ≡ 0) × (after ≡ out)
  -- else the text fills the start, its length is returned and later bytes are unchanged
  pub printed : TEXT ≤ length out → Stored (printed_text file) out 0 after r
  pub within : r ≤ length after
  -- and says what the file is
  pub says : TEXT ≤ length out → Says file (printed_text file)

-- ---- inside the crate

-- a valid table, and room for its text
pub record RulesToPrint (t : Rules) (out : List ℕ) : Type 0 where
  pub valid : ValidTable t
  pub room : TEXT ≤ length out

-- so, with the verdict on it and the bytes that it left
pub record Decided (t : Rules) (v : Verdict) (bytes out : List ℕ) : Type 0 where
  pub table : RulesToPrint t out
  pub decides : DecidesConsistency t (replicate DOCUMENT 0) v bytes
  pub all : length bytes ≡ DOCUMENT

-- the text of a table was laid out, and what it says
pub record PrintsRules (t : Rules) (out : List ℕ) (r : ℕ) (after : List ℕ) : Type 0 where
  pub stored : Stored (rules_text t) out 0 after r
  pub most : length (rules_text t) ≤ TEXT
  pub says : SaysOf t (rules_text t)
