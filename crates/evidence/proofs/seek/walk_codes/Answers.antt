-- `evidence::seek::walk_codes` meets its contract.
use borrow.Author.Rules.{rules}
use Rattle.evidence.proofs.Seeking.{codes_laws, more_numbers}
use Rattle.evidence.proofs.seek.walk_codes.Goals as goal

pub returns-then-s-eq0 : goal.returns-then-s-eq0
returns-then-s-eq0 c = search (rules, codes_laws)

pub loop-step-preserved : goal.loop-step-preserved
loop-step-preserved c = search (rules, codes_laws, more_numbers)

pub returns : goal.returns
returns c = search (rules, codes_laws)
