-- `files::valid::paths_valid` meets its contract.
use Rattle.std.proofs.Common.{rules}
use Rattle.files.proofs.Tester.{paths_valid_laws}
use Rattle.files.proofs.valid.paths_valid.Goals as goal

pub returns-then-rules-lt-LABELS : goal.returns-then-rules-lt-LABELS
returns-then-rules-lt-LABELS c = search (rules, paths_valid_laws)

pub returns-else-rules-lt-LABELS : goal.returns-else-rules-lt-LABELS
returns-else-rules-lt-LABELS c = search (rules, paths_valid_laws)
