-- `evidence::decide::root_pair` meets its contract.
use mathlib.Core.Path.{◌∙◌}
use borrow.Author.Rules.{rules}
use Rattle.evidence.specs.Choices.{root_in}
use Rattle.evidence.proofs.Deciding.{root_met, root_found}
use Rattle.evidence.proofs.decide.root_pair.Goals as goal

pub returns-in_err-row : goal.returns-in_err-row
returns-in_err-row c =
    let e = c.first_row.ensures (root_in c.args.sheet.now c.args.needed) (λ w r h k. search rules) in
    c.from_residual.ensures ∙ (rw c.in_err-row.was at (root_met _ _ _ e))

pub returns : goal.returns
returns c =
    let e = c.first_row.ensures (root_in c.args.sheet.now c.args.needed) (λ w r h k. search rules) in
    root_found _ _ _ e _ _ _ _ _ _ _ c.in_ok-row.was c.left_of.ensures.0 c.right_of.ensures.0 c.reachers.ensures c.reachers-2.ensures c.lowest-x.ensures c.lowest-y.ensures
