-- `files::write::write_rules` meets its contract: what it puts into the buffer is the answer.
use Rattle.std.proofs.Common.{rules, arith, ◌≡◌, ◌∙◌}
use Rattle.files.specs.RuleFile.{numbers_of}
use Rattle.files.specs.Rules.{rules_of}
use Rattle.files.proofs.Writer.{write_laws}
use Rattle.files.proofs.WritingJoins.{writes_rules}
use Rattle.files.proofs.write.write_rules.Goals as goal

pub collect-requires : goal.collect-requires
collect-requires c = search (rules, write_laws)

pub returns-then-not-valid_table : goal.returns-then-not-valid_table
returns-then-not-valid_table c = writes_rules _ (omega (arith, c.well_formed)) _ _ _ (search (rules, write_laws))

pub returns : goal.returns
returns c =
    let collected : c.as_slice.result.now ≡ numbers_of (rules_of c.args.rules) = c.as_slice.ensures.value ∙ c.collect.ensures in
    writes_rules _ (omega (arith, c.well_formed)) _ _ _ (search (rules, write_laws))
