-- `reasoning::question::settle` meets its contract.
use Rattle.reasoning.proofs.Asking.{settle_low, settle_range, settle_yes, settle_no, counter_told}
use native.Mathlib.Omega.{arith}
use Rattle.reasoning.proofs.question.settle.Goals as goal

pub grounds-b-requires : goal.grounds-b-requires
grounds-b-requires c = settle_low _ (omega (arith, c.well_formed)) _ _ _ _ _ c.requires

pub put_yes-requires : goal.put_yes-requires
put_yes-requires c = settle_range _ (omega (arith, c.well_formed)) _ _ _ _ _ c.requires _ c.clashing.ensures _ c.grounds-b.ensures

pub returns-then-yes : goal.returns-then-yes
returns-then-yes c = settle_yes _ (omega (arith, c.well_formed)) _ _ _ _ _ c.requires _ c.clashing.ensures _ c.grounds-b.ensures _ c.yes.ensures c.if-yes.true _ _ _ c.put_yes.ensures

pub put_no-requires : goal.put_no-requires
put_no-requires c = settle_low _ (omega (arith, c.well_formed)) _ _ _ _ _ c.requires

pub returns : goal.returns
returns c = counter_told _ (omega (arith, c.well_formed)) _ _ _ _ _ _ (settle_no _ (omega (arith, c.well_formed)) _ _ _ _ _ c.requires _ c.clashing.ensures _ c.grounds-b.ensures _ c.yes.ensures c.if-yes.false _ c.is_some.ensures) _ _ _ c.put_no.ensures
