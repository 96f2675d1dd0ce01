-- `Reader::number_between` meets its contract.
use Rattle.std.proofs.Common.{rules}
use Rattle.files.specs.Refusals.{condition_number}
use Rattle.files.specs.RuleFile.{between}
use Rattle.files.proofs.Readers.{between_within}
use Rattle.files.proofs.reader.Reader.number_between.Goals as goal

pub returns : goal.returns
returns c =
    let reads = c.tested.ensures (between c.args.low c.args.past (condition_number c.args.condition)) (λ n r h p. search rules) in
    record { reads = reads; within = between_within _ _ _ _ _ c.tested.result reads }
