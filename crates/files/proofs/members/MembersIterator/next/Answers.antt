-- `Members` goes through the paths of its set: the least comes first.
use Rattle.std.proofs.Common.{rules}
use Rattle.files.proofs.SetMembers.{members_take, members_of_zero}
use Rattle.files.proofs.members.MembersIterator.next.Goals as goal

pub returns-then-self-eq0-clause-steps : goal.returns-then-self-eq0-clause-steps
returns-then-self-eq0-clause-steps c = search (rules, members_of_zero)

pub returns-clause-steps : goal.returns-clause-steps
returns-clause-steps c = search (rules, members_take)

pub returns-clause-goes : goal.returns-clause-goes
returns-clause-goes c = search (rules, members_take)
