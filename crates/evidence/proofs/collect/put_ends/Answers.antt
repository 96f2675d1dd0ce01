-- `evidence::collect::put_ends` meets its contract.
use borrow.Author.Rules.{rules}
use Rattle.evidence.proofs.Collecting.{stored_laws}
use Rattle.evidence.proofs.collect.put_ends.Goals as goal

pub returns : goal.returns
returns c = search (rules, stored_laws)
