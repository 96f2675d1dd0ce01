-- `evidence::collect::put_found` meets its contract.
use borrow.Author.Rules.{rules}
use Rattle.evidence.proofs.Collecting.{ground_laws, direct_range, dead_range, pair_range}
use Rattle.evidence.proofs.collect.put_found.Goals as goal

pub put_direct-requires : goal.put_direct-requires
put_direct-requires c = direct_range _ _ c.requires.0 c.requires.1 c.in-Direct.is

pub put_dead-requires : goal.put_dead-requires
put_dead-requires c = dead_range _ _ c.requires.0 c.requires.1 c.in-Dead.is

pub put_pair-requires : goal.put_pair-requires
put_pair-requires c = pair_range _ _ c.requires.0 c.requires.1 c.in-Pair.is

pub returns-in-Direct : goal.returns-in-Direct
returns-in-Direct c = search (rules, ground_laws)

pub returns-in-Dead : goal.returns-in-Dead
returns-in-Dead c = search (rules, ground_laws)

pub returns-in-Pair : goal.returns-in-Pair
returns-in-Pair c = search (rules, ground_laws)
