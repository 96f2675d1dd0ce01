-- `files::rules::parents` meets its contract.
use Rattle.std.proofs.Common.{rules}
use Rattle.files.proofs.Tables.{parents_laws}
use Rattle.files.proofs.rules.parents.Goals as goal

pub loop-x-init : goal.loop-x-init
loop-x-init c = search (rules, parents_laws)

pub loop-x-preserved : goal.loop-x-preserved
loop-x-preserved c = search (rules, parents_laws)

pub returns : goal.returns
returns c = search (rules, parents_laws)
