-- What the calls over bytes answer, what the lent buffer then holds, and what that means.
use Rattle.std.specs.Prelude.{ℕ, ◌≡◌, List}
use Rattle.files.specs.Reading.{Answer}
use Rattle.files.specs.declared.rules.Rules.{Rules}
use Rattle.files.specs.Writing.{Written}
use Rattle.files.specs.Reading.{read_answer, ReadRules}
use Rattle.files.specs.Writing.{WriteRules}
use Rattle.documents.specs.Answers.{Checked}
use Rattle.documents.specs.Checking.{CheckDocument}
use Rattle.reasoning.specs.Verdict.{Verdict}
use Rattle.reasoning.specs.Reply.{Reply}
use Rattle.reasoning.specs.Calls.{DecidesConsistency, AnswersQuestion}
use Rattle.entry.specs.Numbers.{refusal_numbers, written_numbers, checked_numbers, verdict_numbers, reply_numbers}

-- a call over the bytes of a rule file: the file's own refusals come first, then what the call says of the rules that were read
pub record OverFile (file : List ℕ) (OfRefused : ℕ → ℕ → Type 0) (OfRules : Rules → Type 0) : Type 0 where
  -- what reading the file promises
  pub reading : ReadRules file (read_answer file)
  pub refused : (number offset : ℕ) → (read_answer file).answer ≡ Answer.Refused number offset → OfRefused number offset
  pub accepted : (read_answer file).answer ≡ Answer.Accepted → OfRules (read_answer file).rules

-- the three numbers are those of an answer that meets the promise
pub record NumbersOf {A : Type 0} (numbers : A → List ℕ) (Meets : A → Type 0) (answer : List ℕ) : Type 0 where
  pub given : A
  pub are : answer ≡ numbers given
  pub meets : Meets given

-- a call that writes: a refused file leaves every byte of the lent buffer
abbrev pub Writing : {A : Type 0} (numbers : A → List ℕ) (Meets : Rules → A → Type 0) (file out answer after : List ℕ) → Type 0
Writing numbers Meets file out answer after =
    OverFile file (λ (number offset : ℕ). (answer ≡ refusal_numbers number offset) × (after ≡ out))
    (λ (t : Rules). NumbersOf numbers (Meets t) answer)

-- what reading a rule file and writing it again promises, on all bytes and buffers
abbrev pub Rewrites : (file out answer after : List ℕ) → Type 0
Rewrites file out answer after = Writing written_numbers (λ (t : Rules) (r : Written). WriteRules t out r after) file out answer after

-- what checking a document promises, on all bytes; it lends no buffer
abbrev pub Checks : (file document answer : List ℕ) → Type 0
Checks file document answer =
    OverFile file (λ (number offset : ℕ). answer ≡ refusal_numbers number offset)
    (λ (t : Rules). NumbersOf checked_numbers (λ (r : Checked). CheckDocument t document r) answer)

-- what deciding consistency promises, on all bytes and buffers
abbrev pub Decides : (file out answer after : List ℕ) → Type 0
Decides file out answer after =
    Writing verdict_numbers (λ (t : Rules) (r : Verdict). DecidesConsistency t out r after) file out answer after

-- what a question promises, on all bytes, questions and buffers
abbrev pub Asks : (file : List ℕ) (kind left right : ℕ) (out answer after : List ℕ) → Type 0
Asks file kind left right out answer after =
    Writing reply_numbers (λ (t : Rules) (r : Reply). AnswersQuestion t kind left right out r after) file out answer after
