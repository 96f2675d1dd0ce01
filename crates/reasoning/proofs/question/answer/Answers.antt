-- `reasoning::question::answer` meets its contract.
use Rattle.reasoning.proofs.Calling.{passed_counts}
use Rattle.reasoning.proofs.Asking.{asked_low, direct_low, direct_told, grown_asked}
use native.Mathlib.Omega.{arith}
use borrow.Author.Rules.{rules}
use Rattle.reasoning.proofs.question.answer.Goals as goal

pub lay-sheet-requires : goal.lay-sheet-requires
lay-sheet-requires c = passed_counts _ (omega (arith, c.well_formed)) _ c.requires.passed

pub is_direct-requires : goal.is_direct-requires
is_direct-requires c = asked_low _ (omega (arith, c.well_formed)) _ _ _ _ c.requires

pub put_yes-requires : goal.put_yes-requires
put_yes-requires c = direct_low _ (omega (arith, c.well_formed)) _ _ _ _ c.requires _ c.lay-sheet.ensures

pub returns-then-is_direct : goal.returns-then-is_direct
returns-then-is_direct c = direct_told _ (omega (arith, c.well_formed)) _ _ _ _ c.requires _ c.lay-sheet.ensures _ (search rules) c.is_direct.ensures c.if-is_direct.true _ _ _ c.put_yes.ensures

pub grow-requires : goal.grow-requires
grow-requires c = (passed_counts _ (omega (arith, c.well_formed)) _ c.requires.passed).0

pub settle-requires : goal.settle-requires
settle-requires c = grown_asked _ (omega (arith, c.well_formed)) _ _ _ _ c.requires _ c.lay-sheet.ensures _ c.grow.ensures
