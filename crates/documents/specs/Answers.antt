-- What checking a document answers, and what is found on the way.
use Rattle.std.specs.Prelude.{ℕ, Option, Some, None, Result, Ok, Err}
use Rattle.files.specs.declared.refusal.Refusal.{Refusal}
use Rattle.files.specs.Refusals.{condition_number}
use Rattle.documents.specs.declared.check.Checked.{Checked as Returned}

-- the answer: the document obeys, the least broken rule and the least part that breaks it, the least required path missing,
-- or the refusal's number and offset
pub data Checked : Type 0 where
  Obeys : Checked
  Broken : ℕ → ℕ → Checked
  Missing : ℕ → Checked
  Refused : ℕ → ℕ → Checked

-- the answer that a result is
abbrev pub checked : Result Returned Refusal → Checked
checked (Ok Returned.Obeys) = Obeys
checked (Ok (Returned.Broken r n)) = Broken r n
checked (Ok (Returned.Missing x)) = Missing x
checked (Err e) = Refused (condition_number e.condition) e.offset

-- where among the parts something stands: its number, or nowhere
pub data Place : Type 0 where
  At : ℕ → Place
  Nowhere : Place

-- the place that a result is
abbrev pub place : Option ℕ → Place
place (Some n) = At n
place None = Nowhere

-- the least broken rule and the least part that breaks it
pub data Break : Type 0 where
  Broken : ℕ → ℕ → Break
  Unbroken : Break

-- the break that a result is
abbrev pub found : Option (ℕ × ℕ) → Break
found (Some p) = Break.Broken p.0 p.1
found None = Unbroken
