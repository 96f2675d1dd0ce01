-- Of an accepted file: its table is valid, so no call over its bytes refuses with 12, and writing it again gives the same bytes.
use Prim.Native.Nat.{ℕ, ◌≤◌, ◌<◌}
use mathlib.Core.Path.{◌≡◌, sym, ap, subst, ◌∙◌}
use mathlib.Core.List.{List, ◌++◌}
use lib.ListN.{length, drop}
use borrow.Author.Tests.{le-leb, lt-leb}
use Rattle.files.specs.Reading.{Answer, read_answer}
use Rattle.files.specs.declared.rules.Rules.{Rules}
use Rattle.files.specs.Writing.{Written, write_answer, Put, put}
use Rattle.files.specs.RuleFile.{file_of}
use Rattle.files.specs.Rules.{ValidTable, table_of}
use Rattle.files.proofs.TableStructs.{rules_of_table, table_valid, table_word, write_valid}
use Rattle.reasoning.specs.Verdict.{Verdict}
use Rattle.reasoning.specs.Reply.{Reply}
use Rattle.entry.specs.Calls.{OverFile, Rewrites, Decides, Asks}
use Rattle.entry.specs.Numbers.{three, written_numbers}

module _ {file : List ℕ} {R : ℕ → ℕ → Type 0} {P : Rules → Type 0} (h : OverFile file R P) (e : (read_answer file).answer ≡ Answer.Accepted) where
  -- the table of an accepted file is valid
  pub accepted_valid : ValidTable (read_answer file).rules
  accepted_valid = let a = h.reading.accepted e in subst ValidTable (sym a.table) (table_valid a.rules a.valid)

  -- what is written of it is the file
  accepted_put : (out : List ℕ) → write_answer (read_answer file).rules out ≡ put file out
  accepted_put out =
      let a = h.reading.accepted e in
      ap (λ (t : Rules). write_answer t out) a.table
      ∙ (write_valid (table_of a.rules) (table_word a.rules) (table_valid a.rules a.valid) out
      ∙ ap (λ (s : List ℕ). put s out) (ap file_of (rules_of_table a.rules a.valid) ∙ sym a.file))

-- no call over the bytes of an accepted file refuses with 12
pub rewrite_not_12 : {file out answer after : List ℕ} (h : Rewrites file out answer after) (e : (read_answer file).answer ≡ Answer.Accepted)
    → (h.accepted e).given ≡ Written.Refused 12 0 → ⊥
rewrite_not_12 h e f = (h.accepted e).meets.invalid.0 f (accepted_valid h e)

pub consistency_not_12 : {file out answer after : List ℕ} (h : Decides file out answer after)
    (e : (read_answer file).answer ≡ Answer.Accepted) → (h.accepted e).given ≡ Verdict.Refused 12 0 → ⊥
consistency_not_12 h e f = (h.accepted e).meets.invalid.0 f (accepted_valid h e)

pub ask_not_12 : {file : List ℕ} {kind left right : ℕ} {out answer after : List ℕ} (h : Asks file kind left right out answer after)
    (e : (read_answer file).answer ≡ Answer.Accepted) → (h.accepted e).given ≡ Reply.Refused 12 0 → ⊥
ask_not_12 h e f = (h.accepted e).meets.invalid.0 f (accepted_valid h e)

module _ {file out answer after : List ℕ} (h : Rewrites file out answer after) (e : (read_answer file).answer ≡ Answer.Accepted) where
  -- an accepted file is written again as it was read
  pub rewrite_same : length file ≤ length out → (answer ≡ three 1 (length file) 0) × (after ≡ file ++ drop (length file) out)
  unfolding put
  rewrite_same f =
      let w = h.accepted e in
      let p : write_answer (read_answer file).rules out
      ≡ record { answer = Written.Length (length file); buffer = file ++ drop (length file) out } =
      accepted_put h e out ∙ rw (le-leb (length file) (length out) f) in
      (w.are ∙ ap written_numbers (w.meets.puts.answer ∙ ap (λ (q : Put). q.answer) p), w.meets.puts.buffer ∙ ap (λ (q : Put). q.buffer) p)

  -- where the buffer is shorter, the refusal is 20 and every byte stays
  pub rewrite_short : length out < length file → (answer ≡ three 0 20 0) × (after ≡ out)
  unfolding put
  rewrite_short f =
      let w = h.accepted e in
      let p : write_answer (read_answer file).rules out ≡ record { answer = Written.Refused 20 0; buffer = out } =
      accepted_put h e out ∙ rw (lt-leb (length file) (length out) f) in
      (w.are ∙ ap written_numbers (w.meets.puts.answer ∙ ap (λ (q : Put). q.answer) p), w.meets.puts.buffer ∙ ap (λ (q : Put). q.buffer) p)
