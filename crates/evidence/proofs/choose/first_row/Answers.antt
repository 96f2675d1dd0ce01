-- `first_row` meets its contract, whatever test the closure is.
use native.Mathlib.Omega.{arith}
use Rattle.evidence.proofs.Choosing.{row_start, row_found, row_on, row_end}
use Rattle.evidence.proofs.choose.first_row.Goals as goal

pub loop-j-init : goal.loop-j-init
loop-j-init g c = λ passes k. row_start _ passes

pub returns-then-test : goal.returns-then-test
returns-then-test g c =
    λ passes k. row_found _ passes _ (c.loop-j.invariant passes k) _ _ (omega arith) c.absence-row.ensures (k _ _ (omega arith) c.test.ensures) c.if-test.true

pub loop-j-preserved : goal.loop-j-preserved
loop-j-preserved g c =
    λ passes k. row_on _ passes _ (c.loop-j.invariant passes k) _ _ (omega arith) c.absence-row.ensures (k _ _ (omega arith) c.test.ensures) c.if-test.false

pub returns : goal.returns
returns g c = λ passes k. row_end _ passes _ (c.loop-j.invariant passes k) (omega arith)
