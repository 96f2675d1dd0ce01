-- `handed::emit::Draft::emit_first` meets its contract: one number or none.
use Rattle.std.proofs.Common.{rules}
use Rattle.handed.proofs.Emitting.{first_laws}
use Rattle.handed.proofs.emit.Draft.emit_first.Goals as goal

pub returns-then-has : goal.returns-then-has
returns-then-has c = search (rules, first_laws)

pub returns-else-has : goal.returns-else-has
returns-else-has c = search (rules, first_laws)
