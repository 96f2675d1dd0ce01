-- `handed::emit::Draft::emit_part` meets its contract: three pieces, one after the other.
use Rattle.std.proofs.Common.{rules}
use Rattle.handed.proofs.EmittingParts.{part_emitted}
use Rattle.handed.proofs.emit.Draft.emit_part.Goals as goal

pub returns : goal.returns
returns c = search (rules, part_emitted)
