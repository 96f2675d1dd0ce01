-- `files::read::read_required` meets its contract.
use Rattle.std.proofs.Common.{rules, arith, ◌<◌, ◌≤◌}
use Rattle.std.proofs.lemmas.Result.{err_from_is_err_and}
use Rattle.files.proofs.RulesRead.{required_start, required_small, required_out, required_next, required_end}
use Rattle.files.proofs.read.read_required.Goals as goal

pub loop-init : goal.loop-init
loop-init c = required_start _ _ _

pub overflow_add-last : goal.overflow_add-last
overflow_add-last c =
    let small : c.loop.last ≤ 64 = required_small _ _ _ _ _ _ _ c.loop.invariant in
    search rules

pub returns-in_err-last : goal.returns-in_err-last
returns-in_err-last c =
    let p = err_from_is_err_and c.from_residual.result c.from_residual.ensures.1 in
    let left : c.loop.counter < c.args.many = search rules in
    rw (p.1, p.2) (required_out _ _ _ _ _ _ _ c.loop.invariant left _ _ c.in_err-last.ensures.reads)

pub loop-preserved : goal.loop-preserved
loop-preserved c =
    let left : c.loop.counter < c.args.many = search rules in
    let small : c.in_ok-last.last ≤ 64 = omega (arith, c.in_ok-last.ensures.within, c.requires) in
    required_next _ _ _ _ _ _ _ c.loop.invariant left _ _ _ c.in_ok-last.ensures.reads small c.with-required.ensures

pub returns : goal.returns
returns c =
    let all : c.args.many ≤ c.loop.counter = search rules in
    required_end _ _ _ _ _ _ _ c.loop.invariant all
