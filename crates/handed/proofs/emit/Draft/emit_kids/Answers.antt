-- `handed::emit::Draft::emit_kids` meets its contract: what is emitted and what remains is the whole.
use Rattle.std.proofs.Common.{rules}
use Rattle.handed.proofs.Emitting.{each_laws}
use Rattle.handed.proofs.emit.Draft.emit_kids.Goals as goal

pub loop-path-init : goal.loop-path-init
loop-path-init c = search (rules, each_laws, c.into_iter-path-iterator.ensures.into_iter_gives)

pub emit_under-requires : goal.emit_under-requires
emit_under-requires c = search (rules, each_laws, c.in-Some.ensures.steps)

pub loop-path-preserved : goal.loop-path-preserved
loop-path-preserved c = search (rules, each_laws, c.in-Some.ensures.steps)

pub returns : goal.returns
returns c = search (rules, each_laws, c.in-None.ensures.steps.0)
