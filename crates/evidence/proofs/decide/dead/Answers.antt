-- `evidence::decide::dead` meets its contract.
use mathlib.Core.Path.{◌∙◌}
use borrow.Author.Rules.{rules}
use Rattle.evidence.specs.Choices.{clashes_at}
use Rattle.evidence.proofs.Choosing.{at_is}
use Rattle.evidence.proofs.Deciding.{dead_clear, dead_met}
use Rattle.evidence.proofs.decide.dead.Goals as goal

pub returns-then-reached-eq0 : goal.returns-then-reached-eq0
returns-then-reached-eq0 c = search (rules, dead_clear)

pub returns-in_err-row : goal.returns-in_err-row
returns-in_err-row c =
    let e = c.first_row.ensures (clashes_at _ _) (λ w r h k. search (rules, at_is)) in
    c.from_residual.ensures ∙ (rw c.in_err-row.was at (dead_met _ _ _ _ c.clashes_from-reached.ensures _ c.if-reached-eq0.false c.lowest-y.ensures _ e))

pub returns : goal.returns
returns c =
    let e = c.first_row.ensures (clashes_at _ _) (λ w r h k. search (rules, at_is)) in
    rw c.in_ok-row.was at (dead_met _ _ _ _ c.clashes_from-reached.ensures _ c.if-reached-eq0.false c.lowest-y.ensures _ e)
