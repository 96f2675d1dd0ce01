-- `Reader::number` meets its contract.
use Rattle.std.proofs.Common.{refl, sym, ap, ◌∙◌}
use Rattle.files.specs.Format.{refused}
use Rattle.files.specs.Refusals.{condition_number}
use Rattle.files.proofs.Readers.{any_bad, any_is}
use Rattle.files.proofs.reader.Reader.number.Goals as goal

pub returns-in-Ok : goal.returns-in-Ok
returns-in-Ok c = record { bytes = refl; answer = (_, any_is _ _ (sym c.in-Ok.ensures.begun), refl) }

pub returns-in-Err : goal.returns-in-Err
returns-in-Err c =
    record {
      bytes = refl;
      answer = any_bad _ _ (sym c.in-Err.ensures.begun) ∙ ap (λ r. refused (condition_number r.condition) r.offset) (sym c.at.ensures);
    }
