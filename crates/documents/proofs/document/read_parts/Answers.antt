-- `documents::document::read_parts` meets its contract.
use Rattle.std.proofs.Common.{rules, refl, ◌<◌, ◌≤◌}
use Rattle.std.proofs.lemmas.Result.{err_from_is_err_and}
use Rattle.documents.proofs.PartLists.{parts_start, parts_refused, parts_more, parts_end}
use Rattle.documents.proofs.document.read_parts.Goals as goal

pub loop-n-init : goal.loop-n-init
loop-n-init c = search (rules, parts_start)

pub returns-in_err-part : goal.returns-in_err-part
returns-in_err-part c =
    let p = err_from_is_err_and c.from_residual.result c.from_residual.ensures.1 in
    let left : c.loop-n.n < c.args.count = search rules in
    rw (p.1, p.2) (parts_refused _ _ _ _ _ _ _ _ _ c.loop-n.invariant.1 left _ _ _ _ c.in_err-part.ensures)

pub loop-n-preserved : goal.loop-n-preserved
loop-n-preserved c =
    let left : c.loop-n.n < c.args.count = search rules in
    (c.loop-n.invariant.0, parts_more _ _ _ _ _ _ _ _ _ c.loop-n.invariant.1 left _ _ _ c.requires.1 c.in_ok-part.ensures)

pub returns : goal.returns
returns c =
    let all : c.args.count ≤ c.loop-n.n = search rules in
    let most : c.loop-n.n ≤ c.args.count = search rules in
    parts_end _ _ _ _ _ _ _ _ _ c.loop-n.invariant.1 c.loop-n.parts all most c.loop-n.invariant.0 refl refl
