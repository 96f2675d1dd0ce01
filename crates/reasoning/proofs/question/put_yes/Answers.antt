-- `reasoning::question::put_yes` meets its contract.
use Rattle.std.proofs.Common.{refl}
use Rattle.std.proofs.lemmas.Result.{err_from_is_err_and}
use Rattle.reasoning.specs.Calls.{answer_of}
use Rattle.reasoning.specs.Reply.{Yes, Refused}
use Rattle.reasoning.proofs.Calling.{told}
use Rattle.reasoning.proofs.question.put_yes.Goals as goal

pub returns-in_err-put_numbers : goal.returns-in_err-put_numbers
unfolding answer_of
returns-in_err-put_numbers c =
    let p = err_from_is_err_and c.from_residual.result c.from_residual.ensures.1 in
    rw (p.1, p.2)
    (told Yes Refused _ _ _ _ _ _ refl c.put_both.ensures c.as_slice.ensures.value _ _ _ c.in_err-put_numbers.ensures refl)

pub returns : goal.returns
unfolding answer_of
returns c = told Yes Refused _ _ _ _ _ _ refl c.put_both.ensures c.as_slice.ensures.value _ _ _ c.in_ok-put_numbers.ensures refl
