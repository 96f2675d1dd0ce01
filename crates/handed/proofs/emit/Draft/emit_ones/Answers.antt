-- `handed::emit::Draft::emit_ones` meets its contract: what is emitted and what remains is the whole.
use Rattle.std.proofs.Common.{rules}
use Rattle.handed.proofs.EmittingParts.{ones_laws}
use Rattle.handed.proofs.emit.Draft.emit_ones.Goals as goal

pub loop-goal-init : goal.loop-goal-init
loop-goal-init c = search (rules, ones_laws, c.into_iter-goal-iterator.ensures.into_iter_gives)

pub emit_part-requires : goal.emit_part-requires
emit_part-requires c = search (rules, ones_laws, c.in-Some.ensures.steps)

pub loop-goal-preserved : goal.loop-goal-preserved
loop-goal-preserved c = search (rules, ones_laws, c.in-Some.ensures.steps)

pub returns : goal.returns
returns c = search (rules, ones_laws, c.in-None.ensures.steps.0)

pub one_kids-goals-requires : goal.one_kids-goals-requires
one_kids-goals-requires c = search (rules, ones_laws, c.in-Some.ensures.steps)
