-- `reachable::grow::Known::grow` meets its contract.
use borrow.Author.Rules.{rules}
use Rattle.reachable.proofs.Growing.{grow_laws}
use Rattle.reachable.proofs.grow.Known.grow.Goals as goal

pub loop-round-preserved : goal.loop-round-preserved
loop-round-preserved c = search (rules, grow_laws)
