-- `files::sets::union` meets its contract: the words' `|`.
use mathlib.Core.Path.{refl}
use Rattle.files.specs.Sets.{union}
use Rattle.files.proofs.sets.union.Goals as goal

pub returns : goal.returns
unfolding union
returns c = refl
