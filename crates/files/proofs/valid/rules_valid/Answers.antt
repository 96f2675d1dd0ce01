-- `files::valid::rules_valid` meets its contract.
use Rattle.std.proofs.Common.{rules}
use Rattle.files.proofs.Tester.{rules_valid_laws}
use Rattle.files.proofs.valid.rules_valid.Goals as goal

pub returns-then-rules-le256 : goal.returns-then-rules-le256
returns-then-rules-le256 c = search (rules, rules_valid_laws)

pub returns-else-rules-le256 : goal.returns-else-rules-le256
returns-else-rules-le256 c = search (rules, rules_valid_laws)
