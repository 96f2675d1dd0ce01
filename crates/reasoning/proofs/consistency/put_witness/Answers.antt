-- `reasoning::consistency::put_witness` meets its contract.
use Rattle.std.proofs.Common.{refl}
use Rattle.std.proofs.lemmas.Result.{err_from_is_err_and}
use Rattle.reasoning.specs.Calls.{answer_of}
use Rattle.reasoning.proofs.consistency.put_witness.Goals as goal

pub returns-in_err-write_document : goal.returns-in_err-write_document
unfolding answer_of
returns-in_err-write_document c =
    let p = err_from_is_err_and c.from_residual.result c.from_residual.ensures.1 in
    rw (p.1, p.2) record { written = _; puts = c.in_err-write_document.ensures; is = refl }

pub returns : goal.returns
unfolding answer_of
returns c = record { written = _; puts = c.in_ok-write_document.ensures; is = refl }
