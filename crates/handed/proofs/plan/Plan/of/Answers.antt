-- `handed::plan::Plan::of` meets its contract: what is planned and what remains is the whole.
use Rattle.std.proofs.Common.{rules}
use Rattle.handed.proofs.GoalWords.{paths_laws}
use Rattle.handed.proofs.plan.Plan.of.Goals as goal

pub loop-path-init : goal.loop-path-init
loop-path-init c = search (rules, paths_laws)

pub loop-path-preserved : goal.loop-path-preserved
loop-path-preserved c = search (rules, paths_laws)

pub returns : goal.returns
returns c = search (rules, paths_laws)
