-- `Reader::tested` meets its contract, whatever function the test is.
use Rattle.std.proofs.Common.{sym, ap, ◌∙◌, ◌≡◌}
use Rattle.std.proofs.lemmas.Result.{err_from_is_err_and}
use Rattle.files.specs.Format.{refused}
use Rattle.files.specs.Refusals.{condition_number, test_number}
use Rattle.files.proofs.Readers.{tested_out, tested_is, tested_fails, any_small}
use Rattle.files.proofs.reader.Reader.tested.Goals as goal

pub returns-in_err-number : goal.returns-in_err-number
returns-in_err-number g c =
    λ t k.
    let p = err_from_is_err_and c.from_residual.result c.from_residual.ensures.1 in
    rw (p.1, p.2) record { bytes = c.in_err-number.ensures.bytes; answer = tested_out _ _ t _ c.in_err-number.ensures.answer }

pub returns-in-Ok : goal.returns-in-Ok
returns-in-Ok g c =
    λ t k.
    let number = c.in_ok-number.ensures in
    let passes : t c.in_ok-number.number ≡ 0 =
    sym (k _ _ (rw number.answer.2 (any_small _ _ number.answer.1)) c.test.ensures) ∙ ap test_number c.in-Ok.is in
    record { bytes = number.bytes; answer = (_, tested_is _ _ t number.answer.1 (ap t (sym number.answer.2) ∙ passes), number.answer.2) }

pub returns-in-Err : goal.returns-in-Err
returns-in-Err g c =
    λ t k.
    let number = c.in_ok-number.ensures in
    let fails : t c.in_ok-number.number ≡ condition_number c.in-Err.condition =
    sym (k _ _ (rw number.answer.2 (any_small _ _ number.answer.1)) c.test.ensures) ∙ ap test_number c.in-Err.is in
    record {
      bytes = number.bytes;
      answer =
          tested_fails _ _ t _ c.in-Err.condition number.answer.1 (ap t (sym number.answer.2) ∙ fails)
          ∙ ap (λ r. refused (condition_number r.condition) r.offset) (sym c.at.ensures);
    }
