-- The kinds of rule and their numbers.
use Rattle.std.specs.Prelude.{ℕ, Result, Ok, Err, cond, eqb}
use Rattle.files.specs.declared.kind.Kind.{Kind}
use Rattle.files.specs.declared.kind.UnknownKind.{UnknownKind}
use Rattle.files.specs.declared.kind.Kind.TheVariants.{Implication, Absence, CoOccurrence}

-- the number of a kind
abbrev pub kind_number : Kind → ℕ
kind_number Implication = 1
kind_number Absence = 2
kind_number CoOccurrence = 3

-- the kind of a number; none but 1, 2 and 3 has one
abbrev pub kind_in : ℕ → Result Kind UnknownKind
kind_in n = cond (eqb n 1) (Ok Implication) (cond (eqb n 2) (Ok Absence) (cond (eqb n 3) (Ok CoOccurrence) (Err (record { 0 = n }))))
