-- `reasoning::consistency::put_conflict` meets its contract.
use Rattle.std.proofs.Common.{refl}
use Rattle.std.proofs.lemmas.Result.{err_from_is_err_and}
use Rattle.reasoning.specs.Calls.{answer_of}
use Rattle.reasoning.specs.Verdict.{Inconsistent, Refused}
use Rattle.reasoning.proofs.Calling.{told}
use Rattle.reasoning.proofs.consistency.put_conflict.Goals as goal

pub returns-in_err-put_numbers : goal.returns-in_err-put_numbers
unfolding answer_of
returns-in_err-put_numbers c =
    let p = err_from_is_err_and c.from_residual.result c.from_residual.ensures.1 in
    rw (p.1, p.2)
    (told Inconsistent Refused _ _ _ _ _ _ c.new-numbers.ensures c.put_ground.ensures c.as_slice.ensures.value _ _ _ c.in_err-put_numbers.ensures refl)

pub returns : goal.returns
unfolding answer_of
returns c =
    told Inconsistent Refused _ _ _ _ _ _ c.new-numbers.ensures c.put_ground.ensures c.as_slice.ensures.value _ _ _ c.in_ok-put_numbers.ensures refl
