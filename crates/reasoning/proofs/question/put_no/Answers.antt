-- `reasoning::question::put_no` meets its contract: the goals first, then their document is written.
use Rattle.std.proofs.Common.{refl}
use Rattle.std.proofs.lemmas.Result.{err_from_is_err_and}
use Rattle.reasoning.specs.Calls.{answer_of}
use Rattle.reasoning.proofs.Asking.{begun_told}
use Rattle.reasoning.proofs.question.put_no.Goals as goal

pub returns-in_err-write_document : goal.returns-in_err-write_document
unfolding answer_of
returns-in_err-write_document c =
    let p = err_from_is_err_and c.from_residual.result c.from_residual.ensures.1 in
    rw (p.1, p.2) (begun_told _ _ _ _ _ _ _ c.counter-b.ensures.0 _ _ _ c.in_err-write_document.ensures refl)

pub returns : goal.returns
unfolding answer_of
returns c = begun_told _ _ _ _ _ _ _ c.counter-b.ensures.0 _ _ _ c.in_ok-write_document.ensures refl
