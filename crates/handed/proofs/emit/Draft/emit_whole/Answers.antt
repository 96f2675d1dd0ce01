-- `handed::emit::Draft::emit_whole` meets its contract: one part or none.
use Rattle.std.proofs.Common.{rules}
use Rattle.handed.proofs.EmittingParts.{whole_laws}
use Rattle.handed.proofs.emit.Draft.emit_whole.Goals as goal

pub returns-then-has : goal.returns-then-has
returns-then-has c = search (rules, whole_laws)

pub returns-else-has : goal.returns-else-has
returns-else-has c = search (rules, whole_laws)
