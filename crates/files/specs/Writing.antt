-- Writing a rule file: what the answer and the buffer are.
use Rattle.std.specs.Prelude.{ℕ, Result, Ok, Err, ◌-◌, ◌%◌, ◌<◌, ◌≤◌, ◌≡◌, ◌↔◌, cond, List, ◌∷◌, ◌++◌, map, length, get_or, drop, leb}
use Rattle.files.specs.declared.rules.Rules.{Rules}
use Rattle.files.specs.declared.refusal.Refusal.{Refusal}
use Rattle.files.specs.Refusals.{condition_number}
use Rattle.files.specs.Number.{limit}
use Rattle.files.specs.RuleFile.{path_numbers, rule_numbers, file_of}
use Rattle.files.specs.Rules.{rules_of, paths_from, rules_from, ValidTable}
use Rattle.files.specs.Sets.{members}
use Rattle.files.specs.TableTest.{table_passes}

-- the answer of writing: how many bytes were written, or the refusal's number and offset
pub data Written : Type 0 where
  Length : ℕ → Written
  Refused : ℕ → ℕ → Written

-- the answer that a result is
abbrev pub written_answer : Result ℕ Refusal → Written
written_answer (Ok n) = Length n
written_answer (Err r) = Refused (condition_number r.condition) r.offset

-- an answer with what the lent buffer then holds
pub record Put : Type 0 where
  pub answer : Written
  pub buffer : List ℕ

-- bytes put into a lent buffer: refusal 20 where they are longer than it, and it stays as it was; else they fill its start
unfoldable pub put : List ℕ → List ℕ → Put
put bytes out =
    cond (leb (length bytes) (length out))
    (record { answer = Length (length bytes); buffer = bytes ++ drop (length bytes) out })
    (record { answer = Refused 20 0; buffer = out })

-- what writing a table into a lent buffer answers and leaves: refusal 12 first
unfoldable pub write_answer : Rules → List ℕ → Put
write_answer t out = cond (table_passes t) (put (file_of (rules_of t)) out) (record { answer = Refused 12 0; buffer = out })

-- the first section of the numbers of a table's file: path count, root label, parents and labels
abbrev pub path_section : List ℕ → List ℕ → ℕ → List ℕ
path_section parent label count = count ∷ get_or label 0 0 ∷ path_numbers (paths_from parent label 1 (count - 1))

-- the second section: required count and required paths
abbrev pub required_section : ℕ → List ℕ
required_section required = length (members required) ∷ members required

-- the third section: rule count and rules
abbrev pub rule_section : List ℕ → List ℕ → List ℕ → ℕ → List ℕ
rule_section kind left right many = many ∷ rule_numbers (rules_from kind left right 0 many)

-- numbers as a file can hold them: one at or past the limit is taken modulo the limit
unfoldable pub wrapped : List ℕ → List ℕ
wrapped ns = map (λ (n : ℕ). n % limit) ns

-- the answer and the buffer after the call are those named
pub record Puts (p : Put) (r : Written) (after : List ℕ) : Type 0 where
  pub answer : r ≡ p.answer
  pub buffer : after ≡ p.buffer

-- each answer of writing a table, when it is given, and what the lent buffer then holds
pub data WritesTable (t : Rules) (out : List ℕ) : Written → List ℕ → Type 0 where
  -- refusal 12 where the table breaks a condition, then 20 where its file is longer than the buffer: every byte stays
  invalid : ¬ ValidTable t → WritesTable t out (Refused 12 0) out
  short : ValidTable t → length out < length (file_of (rules_of t)) → WritesTable t out (Refused 20 0) out
  -- else its file fills the start, the file's length is returned, and later bytes are unchanged
  written : ValidTable t → length (file_of (rules_of t)) ≤ length out
      → WritesTable t out (Length (length (file_of (rules_of t)))) (file_of (rules_of t) ++ drop (length (file_of (rules_of t))) out)

-- what writing a table into a lent buffer promises, on all tables and buffers
pub record WriteRules (t : Rules) (out : List ℕ) (r : Written) (after : List ℕ) : Type 0 where
  -- the answer, and the whole buffer after the call
  pub puts : Puts (write_answer t out) r after
  -- they are so
  pub so : WritesTable t out r after
  -- refusal 12 exactly if the table is not valid
  pub invalid : (r ≡ Refused 12 0) ↔ (¬ ValidTable t)
  -- refusal 20 exactly if it is valid and its file is longer than the buffer
  pub short : (r ≡ Refused 20 0) ↔ (ValidTable t × (length out < length (file_of (rules_of t))))
