-- `files::read::one_path_table` meets its contract.
use Rattle.std.proofs.Common.{refl}
use Rattle.files.specs.Rules.{table_of, no_rules, padded, add_all}
use Rattle.files.proofs.read.one_path_table.Goals as goal

pub returns : goal.returns
unfolding table_of no_rules padded add_all
returns c = refl
