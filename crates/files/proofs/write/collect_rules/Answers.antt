-- `files::write::collect_rules` meets its contract.
use Rattle.std.proofs.Common.{rules}
use Rattle.files.proofs.Collect.{rules_laws}
use Rattle.files.proofs.write.collect_rules.Goals as goal

pub loop-x-init : goal.loop-x-init
loop-x-init c = search (rules, rules_laws)

pub loop-x-preserved : goal.loop-x-preserved
loop-x-preserved c = search (rules, rules_laws)

pub returns : goal.returns
returns c = search (rules, rules_laws)
