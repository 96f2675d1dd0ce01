-- `handed::document::write_document` meets its contract: what is planned is emitted.
use Rattle.std.proofs.Common.{rules}
use Rattle.handed.proofs.EmittingParts.{document_put}
use Rattle.handed.proofs.document.write_document.Goals as goal

pub returns : goal.returns
returns c = search (rules, document_put)
