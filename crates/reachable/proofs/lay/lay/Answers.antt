-- `reachable::lay::lay` meets its contract.
use borrow.Author.Rules.{rules}
use Rattle.reachable.proofs.Laying.{lay_is}
use Rattle.reachable.proofs.lay.lay.Goals as goal

pub returns : goal.returns
returns c = search (rules, lay_is)
