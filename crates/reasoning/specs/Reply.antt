-- The reply to a question.
use Rattle.std.specs.Prelude.{ℕ, Result, Ok, Err}
use Rattle.files.specs.declared.refusal.Refusal.{Refusal}
use Rattle.files.specs.Refusals.{condition_number}
use Rattle.reasoning.specs.declared.question.Reply.{Reply as Returned}

-- yes with evidence of so many bytes, no with a counter-document of so many bytes, or the refusal's number and place
pub data Reply : Type 0 where
  Yes : ℕ → Reply
  No : ℕ → Reply
  Refused : ℕ → ℕ → Reply

-- the reply that a result is
abbrev pub reply : Result Returned Refusal → Reply
reply (Ok (Returned.Yes n)) = Yes n
reply (Ok (Returned.No n)) = No n
reply (Err r) = Refused (condition_number r.condition) r.offset
