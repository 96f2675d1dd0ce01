-- `evidence::collect::put_ground` meets its contract.
use borrow.Author.Rules.{rules}
use Rattle.evidence.proofs.Collecting.{given_laws}
use Rattle.evidence.proofs.collect.put_ground.Goals as goal

pub returns-in_default : goal.returns-in_default
returns-in_default c = search (rules, given_laws)
