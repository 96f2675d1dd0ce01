-- `files::valid::rules_pass` meets its contract.
use Rattle.std.proofs.Common.{rules}
use Rattle.files.proofs.Tester.{all_laws}
use Rattle.files.proofs.valid.rules_pass.Goals as goal

pub returns-then-not-rule_passes : goal.returns-then-not-rule_passes
returns-then-not-rule_passes c = search (rules, all_laws)

pub loop-x-preserved : goal.loop-x-preserved
loop-x-preserved c = search (rules, all_laws)

pub returns : goal.returns
returns c = search (rules, all_laws)
