-- `documents::document::read_kids` meets its contract.
use Rattle.std.proofs.Common.{rules, arith, length, ◌≡◌, ◌<◌, ◌≤◌}
use Rattle.std.proofs.lemmas.Result.{err_from_is_err_and}
use Rattle.documents.specs.PartList.{part_limit}
use Rattle.documents.proofs.PartReader.{kids_start, kids_small, kids_refused, kids_more, kids_end}
use Rattle.documents.proofs.document.read_kids.Goals as goal

pub loop-init : goal.loop-init
loop-init c =
    let long : length c.args.namers.now ≡ part_limit = search rules in
    kids_start _ _ _ _ _ _ long c.requires.1

pub overflow_add-last : goal.overflow_add-last
overflow_add-last c =
    let small : c.loop.last < part_limit = kids_small _ _ _ _ _ _ _ _ _ _ c.loop.invariant in
    search rules

pub returns-in_err-last : goal.returns-in_err-last
returns-in_err-last c =
    let p = err_from_is_err_and c.from_residual.result c.from_residual.ensures.1 in
    let left : c.loop.counter < c.args.many = search rules in
    rw (p.1, p.2) (kids_refused _ _ _ _ _ _ _ _ _ _ c.loop.invariant left _ _ c.in_err-last.ensures.reads)

pub loop-preserved : goal.loop-preserved
loop-preserved c =
    let left : c.loop.counter < c.args.many = search rules in
    let small : c.in_ok-last.last < part_limit = omega (arith, c.in_ok-last.ensures.within, c.requires) in
    kids_more _ _ _ _ _ _ _ _ _ _ c.loop.invariant left _ _ _ _ c.in_ok-last.ensures.reads small c.from.ensures c.with.ensures

pub returns : goal.returns
returns c =
    let all : c.args.many ≤ c.loop.counter = search rules in
    kids_end _ _ _ _ _ _ _ _ _ _ c.loop.invariant all
