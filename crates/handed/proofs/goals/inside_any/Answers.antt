-- What is reachable from any of the goals is what is reachable from each, joined.
use Rattle.std.proofs.Common.{rules, ◌∙◌}
use Rattle.handed.specs.Goals.{inside, inside_any}
use Rattle.handed.proofs.Gathering.{joined_gathers}
use Rattle.handed.proofs.goals.inside_any.Goals as goal

pub returns : goal.returns
unfolding inside_any inside
returns c = c.joined.ensures (inside c.args.sheet.now c.args.slot) (λ x r l p. search rules) ∙ joined_gathers _ _ _ c.ranges.goals.fits
