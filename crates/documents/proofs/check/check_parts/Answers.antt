-- `documents::check::check_parts` meets its contract.
use Rattle.std.proofs.Common.{rules, arith, ℕ, ◌<◌, get_or}
use Rattle.std.proofs.lemmas.Result.{err_from_is_err_and}
use Rattle.documents.proofs.Checks.{parts_laws}
use Rattle.documents.proofs.check.check_parts.Goals as goal

pub returns-in_err-read_document : goal.returns-in_err-read_document
returns-in_err-read_document c =
    let p = err_from_is_err_and c.from_residual.result c.from_residual.ensures.1 in
    rw (p.1, p.2) (search (rules, parts_laws))

pub judge-requires : goal.judge-requires
judge-requires c =
    let bytes : (i : ℕ) → get_or c.args.document.now i 0 < 256 = λ i. omega (arith, c.type_inv.document i) in
    search (rules, parts_laws)

pub returns : goal.returns
returns c = search (rules, parts_laws)
