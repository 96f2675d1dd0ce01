-- `evidence::decide::pair` meets its contract.
use mathlib.Core.Path.{◌∙◌}
use borrow.Author.Rules.{rules}
use Rattle.evidence.specs.Choices.{pair_in}
use Rattle.evidence.proofs.Deciding.{pair_met, pair_straight, pair_crossed}
use Rattle.evidence.proofs.decide.pair.Goals as goal

pub returns-in_err-row : goal.returns-in_err-row
returns-in_err-row c =
    let e = c.first_row.ensures (pair_in c.args.sheet.now c.args.p c.args.q) (λ w r h k. search rules) in
    c.from_residual.ensures ∙ (rw c.in_err-row.was at (pair_met _ _ _ _ e))

pub returns-then-straight : goal.returns-then-straight
returns-then-straight c =
    let e = c.first_row.ensures (pair_in c.args.sheet.now c.args.p c.args.q) (λ w r h k. search rules) in
    pair_straight _ _ _ _ e _ _ c.straight.ensures c.in_ok-row.was c.if-straight.true

pub returns-else-straight : goal.returns-else-straight
returns-else-straight c =
    let e = c.first_row.ensures (pair_in c.args.sheet.now c.args.p c.args.q) (λ w r h k. search rules) in
    pair_crossed _ _ _ _ e _ _ c.straight.ensures c.in_ok-row.was c.if-straight.false
