-- `files::valid::rule_passes` meets its contract.
use Rattle.std.proofs.Common.{rules, ◌≤◌, get_or}
use Rattle.files.proofs.Tester.{rule_laws}
use Rattle.files.proofs.valid.rule_passes.Goals as goal

pub returns-then-is_err : goal.returns-then-is_err
returns-then-is_err c = search (rules, rule_laws)

pub returns-then-from-rules : goal.returns-then-from-rules
returns-then-from-rules c =
    let low : 1 ≤ get_or c.args.rules.now.kind c.args.x 0 = search (rules, rule_laws) in
    let high : get_or c.args.rules.now.kind c.args.x 0 ≤ 3 = search (rules, rule_laws) in
    search (rules, rule_laws)

pub returns-else-from-rules : goal.returns-else-from-rules
returns-else-from-rules c =
    let low : 1 ≤ get_or c.args.rules.now.kind c.args.x 0 = search (rules, rule_laws) in
    let high : get_or c.args.rules.now.kind c.args.x 0 ≤ 3 = search (rules, rule_laws) in
    search (rules, rule_laws)
