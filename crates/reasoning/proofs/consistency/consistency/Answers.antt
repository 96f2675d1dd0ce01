-- `reasoning::consistency::consistency` meets its contract.
use mathlib.Core.Path.{ap}
use mathlib.Core.Bool.{not}
use native.Mathlib.Omega.{arith}
use Rattle.reasoning.proofs.Calling.{invalid_refused, valid_passed}
use Rattle.reasoning.proofs.consistency.consistency.Goals as goal

pub returns-then-not-valid_table : goal.returns-then-not-valid_table
returns-then-not-valid_table c = rw c.at.ensures (invalid_refused _ _ (omega (arith, c.well_formed)) _ c.valid_table.ensures (ap not c.if-not-valid_table.true))

pub decide-requires : goal.decide-requires
decide-requires c = valid_passed _ _ _ c.valid_table.ensures (ap not c.if-not-valid_table.false) c.parents-parent.ensures
