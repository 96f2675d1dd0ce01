-- `files::read::read_rules` meets its contract.
use Rattle.std.proofs.Common.{arith, sym, ap, ◌∙◌}
use Rattle.files.specs.Refusals.{condition_number}
use Rattle.files.specs.Reading.{reading_of, read_answer, Accepted, Refused}
use Rattle.files.proofs.ReadingJoins.{reads_bytes}
use Rattle.files.proofs.read.read_rules.Goals as goal

pub returns-in_default : goal.returns-in_default
unfolding read_answer reading_of
returns-in_default c =
    let known = c.in_default.ensures in
    reads_bytes _ _ (λ i. omega (arith, c.type_inv.bytes i)) (ap (λ t. record { answer = Accepted; rules = t }) known.3 ∙ sym (ap reading_of known.2))

pub returns-in-Err : goal.returns-in-Err
unfolding read_answer reading_of
returns-in-Err c =
    let known = c.in-Err.ensures in
    reads_bytes _ _ (λ i. omega (arith, c.type_inv.bytes i))
    (ap (λ t. record { answer = Refused (condition_number c.in-Err.refusal.condition) c.in-Err.refusal.offset; rules = t }) c.one_path_table-reading.ensures ∙ sym (ap reading_of known))
