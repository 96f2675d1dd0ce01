-- `handed::plan::Plan::of` meets its contract: what is planned and what remains is the whole.
use Rattle.std.proofs.Common.{◌-◌, ◌≡◌}
use Rattle.reachable.specs.Sheet.{paths_in}
use Rattle.handed.specs.Plan.{opened, plan_paths}
use Rattle.handed.proofs.plan.Plan.of.Given as goal

abbrev pub invariant-loop-path : goal.invariant-loop-path
invariant-loop-path l = plan_paths l.sheet (paths_in l.sheet - l.path) l.path l.plan ≡ plan_paths l.sheet (paths_in l.sheet) 0 (opened l.sheet l.goals l.top)
