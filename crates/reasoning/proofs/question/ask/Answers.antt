-- `reasoning::question::ask` meets its contract.
use Rattle.reasoning.proofs.Asking.{invalid_barred, unasked_barred, question_passed, question_answered}
use mathlib.Core.Bool.{not}
use native.Mathlib.Omega.{arith}
use mathlib.Core.Path.{ap}
use Rattle.reasoning.proofs.question.ask.Goals as goal

pub returns-then-not-valid_table : goal.returns-then-not-valid_table
returns-then-not-valid_table c = rw c.at.ensures (invalid_barred _ _ _ _ _ (omega (arith, c.well_formed)) _ c.valid_table.ensures (ap not c.if-not-valid_table.true))

pub returns-in_default : goal.returns-in_default
returns-in_default c = rw c.at-in_default.ensures (unasked_barred _ _ _ _ _ (omega (arith, c.well_formed)) _ c.valid_table.ensures (ap not c.if-not-valid_table.false) (rw c.in_default.is at c.asked.ensures))

pub answer-requires : goal.answer-requires
answer-requires c =
    let q = rw c.in-Some.is at c.asked.ensures in
    question_passed _ _ _ _ _ _ _ q.0 q.1 q.2 q.3 _ _ c.valid_table.ensures (ap not c.if-not-valid_table.false) c.parents-parent.ensures

pub returns : goal.returns
returns c =
    let q = rw c.in-Some.is at c.asked.ensures in
    question_answered _ _ _ _ _ _ _ q.0 q.1 q.2 q.3 _ _ _ c.answer.ensures
