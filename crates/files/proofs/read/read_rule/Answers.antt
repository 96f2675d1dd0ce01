-- `files::read::read_rule` meets its contract: three numbers, one after the other.
use Rattle.std.proofs.Common.{refl}
use Rattle.std.proofs.lemmas.Result.{err_from_is_err_and}
use Rattle.files.specs.Reading.{RuleIs}
use Rattle.files.specs.RuleFile.{one_rule, rule_left, rule_right}
use Rattle.files.proofs.Readers.{wants_out, wants_then, reads_done}
use Rattle.files.proofs.read.read_rule.Goals as goal

pub returns-in_err-kind : goal.returns-in_err-kind
unfolding one_rule
returns-in_err-kind c =
    let p = err_from_is_err_and c.from_residual.result c.from_residual.ensures.1 in
    rw (p.1, p.2) (wants_out RuleIs _ _ _ _ _ c.in_err-kind.ensures.reads)

pub returns-in_err-left : goal.returns-in_err-left
unfolding one_rule rule_left
returns-in_err-left c =
    let p = err_from_is_err_and c.from_residual-in_err-left.result c.from_residual-in_err-left.ensures.1 in
    rw (p.1, p.2)
    (wants_then RuleIs _ _ _ _ _ _ _ c.in_ok-kind.ensures.reads (wants_out RuleIs _ _ _ _ _ c.in_err-left.ensures.reads))

pub returns-in_err-right : goal.returns-in_err-right
unfolding one_rule rule_left rule_right
returns-in_err-right c =
    let p = err_from_is_err_and c.from_residual-in_err-right.result c.from_residual-in_err-right.ensures.1 in
    rw (p.1, p.2)
    (wants_then RuleIs _ _ _ _ _ _ _ c.in_ok-kind.ensures.reads
    (wants_then RuleIs _ _ _ _ _ _ _ c.in_ok-left.ensures.reads (wants_out RuleIs _ _ _ _ _ c.in_err-right.ensures.reads)))

pub returns : goal.returns
unfolding one_rule rule_left rule_right
returns c =
    wants_then RuleIs _ _ _ _ _ _ _ c.in_ok-kind.ensures.reads
    (wants_then RuleIs _ _ _ _ _ _ _ c.in_ok-left.ensures.reads
    (wants_then RuleIs _ _ _ _ _ _ _ c.in_ok-right.ensures.reads
    (reads_done RuleIs _ _ _ (record { kind = refl; left = refl; right = refl }))))
