-- `handed::emit::Draft::emit_all` meets its contract: what is emitted and what remains is the whole.
use Rattle.theory.specs.Handed.{each_of}
use Rattle.handed.specs.Plan.{order_in}
use Rattle.handed.specs.Order.{coming}
use Rattle.handed.specs.Emit.{parts_numbers}
use Rattle.handed.proofs.Emitting.{Left, room}
use Rattle.handed.proofs.emit.Draft.emit_all.Given as goal

abbrev pub invariant-loop-path : goal.invariant-loop-path
invariant-loop-path l = Left (each_of (parts_numbers l.self.sheet.now l.self.plan.now) (coming l.path-iterator)) (room 541060 (coming l.path-iterator)) l.to (each_of (parts_numbers l.self.sheet.now l.self.plan.now) (order_in l.self.sheet.now)) 277022720 l.initial.to
