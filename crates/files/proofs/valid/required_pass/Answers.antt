-- `files::valid::required_pass` meets its contract.
use Rattle.std.proofs.Common.{rules}
use Rattle.files.proofs.Tester.{required_laws}
use Rattle.files.proofs.valid.required_pass.Goals as goal

pub returns-then-common-eq0 : goal.returns-then-common-eq0
returns-then-common-eq0 c = search (rules, required_laws)

pub returns-else-common-eq0 : goal.returns-else-common-eq0
returns-else-common-eq0 c = search (rules, required_laws)
