-- `files::read::read_rule_list` meets its contract.
use Rattle.std.proofs.Common.{rules, ◌<◌, ◌≤◌}
use Rattle.std.proofs.lemmas.Result.{err_from_is_err_and}
use Rattle.files.proofs.RulesRead.{rules_start, rules_out, rules_next, rules_end}
use Rattle.files.proofs.read.read_rule_list.Goals as goal

pub loop-i-init : goal.loop-i-init
loop-i-init c = rules_start _ _ _

pub returns-in_err-rule : goal.returns-in_err-rule
returns-in_err-rule c =
    let p = err_from_is_err_and c.from_residual.result c.from_residual.ensures.1 in
    let left : c.loop-i.i < c.args.many = search rules in
    rw (p.1, p.2) (rules_out _ _ _ _ _ _ _ _ c.loop-i.invariant left _ _ _ c.in_err-rule.ensures)

pub loop-i-preserved : goal.loop-i-preserved
loop-i-preserved c =
    let left : c.loop-i.i < c.args.many = search rules in
    rules_next _ _ _ _ _ _ _ _ c.loop-i.invariant left _ _ c.requires.1 c.in_ok-rule.ensures

pub returns : goal.returns
returns c =
    let all : c.args.many ≤ c.loop-i.i = search rules in
    rules_end _ _ _ _ _ _ _ _ c.loop-i.invariant all
