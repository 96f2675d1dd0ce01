-- `handed::emit::Draft::emit_all` meets its contract: what is emitted and what remains is the whole.
use Rattle.std.proofs.Common.{arith, ◌∙◌, ap}
use Rattle.handed.specs.Order.{coming}
use Rattle.handed.proofs.Emitting.{each_room, each_on, each_end}
use Rattle.handed.proofs.EmittingParts.{all_start}
use Rattle.handed.proofs.Ordering.{come_small}
use Rattle.handed.proofs.emit.Draft.emit_all.Goals as goal

pub loop-path-init : goal.loop-path-init
loop-path-init c = all_start _ _ _ _ _ _ (ap coming c.into_iter-path-iterator.ensures.into_iter_gives ∙ c.new-path-items.ensures) (omega arith)

pub emit_parts-requires : goal.emit_parts-requires
emit_parts-requires c = (come_small c.loop-path.path-iterator c.in-Some.ensures.steps, each_room _ _ _ _ _ _ _ c.loop-path.invariant _ _ _ c.in-Some.ensures.steps c.requires)

pub loop-path-preserved : goal.loop-path-preserved
loop-path-preserved c = each_on _ _ _ _ _ _ _ c.loop-path.invariant _ _ _ c.in-Some.ensures.steps c.emit_parts.ensures

pub returns : goal.returns
returns c = each_end _ _ _ _ _ _ _ c.loop-path.invariant c.in-None.ensures.steps.0
