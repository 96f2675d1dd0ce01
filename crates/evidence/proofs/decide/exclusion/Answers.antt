-- `evidence::decide::exclusion` meets its contract.
use mathlib.Core.Path.{◌∙◌, ap}
use borrow.Author.Rules.{rules}
use Rattle.evidence.specs.Grounds.{or_else, dead_ground, pair_ground, exclusion_ground}
use Rattle.evidence.proofs.Deciding.{or_met, or_chain}
use Rattle.evidence.proofs.decide.exclusion.Goals as goal

pub returns : goal.returns
unfolding exclusion_ground
returns c =
    let d = dead_ground c.args.sheet.now c.args.clash c.args.q in
    let p = pair_ground c.args.sheet.now c.args.p c.args.q in
    or_met _ p _ _ c.or_else-2.ensures (λ k. search rules)
    ∙ ap (λ g. or_else g p) (or_met _ d _ _ c.or_else.ensures (λ k. search rules) ∙ ap (λ g. or_else g d) c.dead.ensures)
    ∙ or_chain _ d p
