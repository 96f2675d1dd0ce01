-- `reasoning::consistency::decide` meets its contract.
use Rattle.reasoning.proofs.Calling.{passed_counts, passed_range, passed_conflict, passed_witness}
use native.Mathlib.Omega.{arith}
use Rattle.reasoning.proofs.consistency.decide.Goals as goal

pub sheet_of-sheet-requires : goal.sheet_of-sheet-requires
sheet_of-sheet-requires c = passed_counts _ (omega (arith, c.well_formed)) _ c.requires

pub put_conflict-requires : goal.put_conflict-requires
put_conflict-requires c = passed_range _ (omega (arith, c.well_formed)) _ c.requires _ c.sheet_of-sheet.ensures _ c.clashing.ensures _ c.with-needed.ensures _ c.conflict.ensures _ c.in-Some.is

pub returns-in-Some : goal.returns-in-Some
returns-in-Some c = passed_conflict _ (omega (arith, c.well_formed)) _ c.requires _ c.sheet_of-sheet.ensures _ c.clashing.ensures _ c.with-needed.ensures _ c.conflict.ensures _ c.in-Some.is _ _ _ c.put_conflict.ensures

pub returns-in-None : goal.returns-in-None
returns-in-None c = passed_witness _ (omega (arith, c.well_formed)) _ c.requires _ c.sheet_of-sheet.ensures _ c.clashing.ensures _ c.with-needed.ensures _ c.conflict.ensures _ _ _ c.in-None.is c.put_witness.ensures
