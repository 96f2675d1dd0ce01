-- `handed::emit::Draft::emit_ones` meets its contract: what is emitted and what remains is the whole.
use Rattle.std.proofs.Common.{◌<◌, get_or}
use Rattle.files.specs.Sets.{members}
use Rattle.theory.specs.Handed.{each_of}
use Rattle.reachable.specs.Sheet.{slot_of}
use Rattle.handed.specs.Emit.{one_part_in}
use Rattle.handed.proofs.Emitting.{Left, room}
use Rattle.handed.proofs.emit.Draft.emit_ones.Given as goal

abbrev pub invariant-loop-goal : goal.invariant-loop-goal
invariant-loop-goal l = (l.slot < 8) × Left (each_of (one_part_in l.self.sheet.now l.self.plan.now l.slot l.path) (members l.goal-iterator.0)) (room 8324 (members l.goal-iterator.0)) l.to (each_of (one_part_in l.self.sheet.now l.self.plan.now (slot_of l.self.sheet.now l.path) l.path) (members (get_or l.self.plan.now l.path 0))) 532736 l.initial.to
