-- What a document begins with, and the document's numbers as a function of a sheet.
use Rattle.std.specs.Prelude.{ℕ, List, ◌∷◌}
use Rattle.theory.specs.Handed.{Start, each_of}
use Rattle.handed.specs.Plan.{order_in, planned}
use Rattle.handed.specs.Emit.{parts_numbers}

-- what a document begins with
abbrev pub start_of : (goals top : ℕ) → Start
start_of goals top = record { goals = goals; top = top }

-- the document in numbers: its part count, then its parts
unfoldable pub document_in : (sheet : List ℕ) (goals top : ℕ) → List ℕ
document_in sheet goals top = (planned sheet goals top).parts ∷ each_of (parts_numbers sheet (planned sheet goals top).plan) (order_in sheet)
