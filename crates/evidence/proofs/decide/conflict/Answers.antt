-- `evidence::decide::conflict` meets its contract.
use mathlib.Core.Path.{◌∙◌, ap}
use borrow.Author.Rules.{rules}
use Rattle.evidence.specs.Choices.{dead_needed}
use Rattle.evidence.specs.Grounds.{or_else, dead_lowest, conflict_ground}
use Rattle.evidence.proofs.Deciding.{or_met}
use Rattle.evidence.proofs.decide.conflict.Goals as goal

pub returns : goal.returns
unfolding conflict_ground
returns c =
    let d = dead_lowest c.args.sheet.now c.args.clash (dead_needed c.args.sheet.now c.args.clash c.args.needed) in
    or_met _ d _ _ c.or_else.ensures (λ k. search rules) ∙ ap (λ g. or_else g d) c.root_pair.ensures
