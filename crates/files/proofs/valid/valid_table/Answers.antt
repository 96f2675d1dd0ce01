-- `files::valid::valid_table` meets its contract.
use Rattle.std.proofs.Common.{rules}
use Rattle.files.proofs.Tester.{table_laws}
use Rattle.files.proofs.valid.valid_table.Goals as goal

pub returns-then-required_pass : goal.returns-then-required_pass
returns-then-required_pass c = search (rules, table_laws)

pub returns-else-required_pass : goal.returns-else-required_pass
returns-else-required_pass c = search (rules, table_laws)
