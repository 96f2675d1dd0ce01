-- `files::write::collect` meets its contract.
use Rattle.std.proofs.Common.{rules}
use Rattle.files.proofs.Writer.{collect_laws}
use Rattle.files.proofs.write.collect.Goals as goal

pub collect_required-requires : goal.collect_required-requires
collect_required-requires c = search (rules, collect_laws)

pub collect_rules-requires : goal.collect_rules-requires
collect_rules-requires c = search (rules, collect_laws)

pub returns : goal.returns
returns c = search (rules, collect_laws)
