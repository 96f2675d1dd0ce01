-- `handed::emit::Draft::emit_goals` meets its contract: what is emitted and what remains is the whole.
use Rattle.files.specs.Sets.{members}
use Rattle.theory.specs.Handed.{each_of}
use Rattle.handed.specs.Emit.{one_number}
use Rattle.handed.proofs.Emitting.{Left, room}
use Rattle.handed.proofs.emit.Draft.emit_goals.Given as goal

abbrev pub invariant-loop-goal : goal.invariant-loop-goal
invariant-loop-goal l = Left (each_of (one_number l.self.plan.now l.path) (members l.goal-iterator.0)) (room 2 (members l.goal-iterator.0)) l.to (each_of (one_number l.self.plan.now l.path) (members l.goals)) 128 l.initial.to
