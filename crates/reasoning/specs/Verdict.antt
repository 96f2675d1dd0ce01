-- The verdict on a set of rules.
use Rattle.std.specs.Prelude.{ℕ, Result, Ok, Err}
use Rattle.files.specs.declared.refusal.Refusal.{Refusal}
use Rattle.files.specs.Refusals.{condition_number}
use Rattle.reasoning.specs.declared.consistency.Verdict.{Verdict as Returned}

-- consistent with a document of so many bytes, inconsistent with evidence of so many bytes, or the refusal's number and place
pub data Verdict : Type 0 where
  Consistent : ℕ → Verdict
  Inconsistent : ℕ → Verdict
  Refused : ℕ → ℕ → Verdict

-- the verdict that a result is
abbrev pub verdict : Result Returned Refusal → Verdict
verdict (Ok (Returned.Consistent n)) = Consistent n
verdict (Ok (Returned.Inconsistent n)) = Inconsistent n
verdict (Err r) = Refused (condition_number r.condition) r.offset
