-- `handed::emit::Draft::emit_kids` meets its contract: what is emitted and what remains is the whole.
use Rattle.files.specs.Sets.{members}
use Rattle.theory.specs.Handed.{each_of}
use Rattle.handed.specs.Emit.{kids_on_path}
use Rattle.handed.proofs.Emitting.{Left, room}
use Rattle.handed.proofs.emit.Draft.emit_kids.Given as goal

abbrev pub invariant-loop-path : goal.invariant-loop-path
invariant-loop-path l = Left (each_of (kids_on_path l.self.sheet.now l.self.plan.now l.kids.whole l.kids.goals) (members l.path-iterator.0)) (room 130 (members l.path-iterator.0)) l.to (each_of (kids_on_path l.self.sheet.now l.self.plan.now l.kids.whole l.kids.goals) (members l.paths)) 8320 l.initial.to
