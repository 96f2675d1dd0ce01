-- `handed::emit::Draft::emit_goals` meets its contract: what is emitted and what remains is the whole.
use Rattle.std.proofs.Common.{rules}
use Rattle.handed.proofs.Emitting.{goal_laws}
use Rattle.handed.proofs.emit.Draft.emit_goals.Goals as goal

pub loop-goal-init : goal.loop-goal-init
loop-goal-init c = search (rules, goal_laws, c.into_iter-goal-iterator.ensures.into_iter_gives)

pub emit-requires : goal.emit-requires
emit-requires c = search (rules, goal_laws, c.in-Some.ensures.steps)

pub loop-goal-preserved : goal.loop-goal-preserved
loop-goal-preserved c = search (rules, goal_laws, c.in-Some.ensures.steps)

pub returns : goal.returns
returns c = search (rules, goal_laws, c.in-None.ensures.steps.0)
