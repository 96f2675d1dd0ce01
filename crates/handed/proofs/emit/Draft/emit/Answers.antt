-- `handed::emit::Draft::emit` meets its contract: its part count, then its parts.
use Rattle.std.proofs.Common.{rules}
use Rattle.handed.proofs.EmittingParts.{document_emitted}
use Rattle.handed.proofs.emit.Draft.emit.Goals as goal

pub returns : goal.returns
returns c = document_emitted _ _ _ _ _ _ _ _ _ c.emit.ensures c.emit_all.ensures c.new-to.ensures.out c.new-to.ensures.at (search rules) c.size.ensures
