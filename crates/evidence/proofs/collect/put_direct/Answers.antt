-- `evidence::collect::put_direct` meets its contract.
use borrow.Author.Rules.{rules}
use Rattle.evidence.proofs.Collecting.{stored_laws}
use Rattle.evidence.proofs.collect.put_direct.Goals as goal

pub returns : goal.returns
returns c = search (rules, stored_laws)
