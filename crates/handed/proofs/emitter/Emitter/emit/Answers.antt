-- A number's bytes are counted, and stored as far as the buffer goes.
use Rattle.std.proofs.Common.{rules, arith, refl}
use Rattle.handed.proofs.Emitting.{number_stored}
use Rattle.handed.proofs.emitter.Emitter.emit.Goals as goal

pub returns : goal.returns
returns c = record { emitted = search (rules, number_stored); short = omega arith; same = refl }
