-- `handed::emit::Draft::emit_under` meets its contract: two pieces, one after the other.
use Rattle.std.proofs.Common.{rules}
use Rattle.handed.proofs.Emitting.{path_emitted}
use Rattle.handed.proofs.emit.Draft.emit_under.Goals as goal

pub returns : goal.returns
returns c = search (rules, path_emitted)
