-- `files::sets::difference` meets its contract: what the two have in common is no more than the first.
use mathlib.Core.Path.{refl}
use lib.Bits.{and_le_l}
use Rattle.files.specs.Sets.{difference}
use Rattle.files.proofs.sets.difference.Goals as goal

pub overflow_sub-result : goal.overflow_sub-result
overflow_sub-result c = and_le_l c.args.a c.args.b

pub returns : goal.returns
unfolding difference
returns c = refl
