-- `handed::emit::Draft::emit_parts` meets its contract: two pieces, one after the other.
use Rattle.std.proofs.Common.{rules}
use Rattle.handed.proofs.EmittingParts.{parts_both}
use Rattle.handed.proofs.emit.Draft.emit_parts.Goals as goal

pub returns : goal.returns
returns c = search (rules, parts_both)
