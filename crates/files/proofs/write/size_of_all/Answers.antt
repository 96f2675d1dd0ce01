-- `files::write::size_of_all` meets its contract.
use Rattle.std.proofs.Common.{rules}
use Rattle.files.proofs.Stores.{all_laws}
use Rattle.files.proofs.write.size_of_all.Goals as goal

pub loop-n-init : goal.loop-n-init
loop-n-init c = search (rules, all_laws)

pub loop-n-preserved : goal.loop-n-preserved
loop-n-preserved c = search (rules, all_laws)

pub returns : goal.returns
returns c = search (rules, all_laws)
