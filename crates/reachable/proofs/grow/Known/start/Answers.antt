-- `reachable::grow::Known::start` meets its contract.
use borrow.Author.Rules.{rules}
use Rattle.reachable.proofs.Growing.{start_laws}
use Rattle.reachable.proofs.grow.Known.start.Goals as goal

pub returns : goal.returns
returns c = search (rules, start_laws)
