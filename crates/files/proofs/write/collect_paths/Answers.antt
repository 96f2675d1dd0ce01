-- `files::write::collect_paths` meets its contract.
use Rattle.std.proofs.Common.{rules}
use Rattle.files.proofs.Collect.{paths_laws}
use Rattle.files.proofs.write.collect_paths.Goals as goal

pub loop-x-preserved : goal.loop-x-preserved
loop-x-preserved c = search (rules, paths_laws)

pub returns : goal.returns
returns c = search (rules, paths_laws)
