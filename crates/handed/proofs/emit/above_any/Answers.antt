-- `handed::emit::above_any` meets its contract: the paths above each one, joined.
use Rattle.std.proofs.Common.{rules, ◌∙◌}
use Rattle.reachable.specs.Sheet.{row, above_at}
use Rattle.handed.proofs.Gathering.{joined_gathers}
use Rattle.handed.proofs.emit.above_any.Goals as goal

pub returns : goal.returns
returns c = c.joined.ensures (λ g. row above_at c.args.sheet.now g) (λ x r l p. search rules) ∙ joined_gathers _ _ _ c.ranges.paths.fits
