-- `files::sets::common` meets its contract: the words' `&`.
use mathlib.Core.Path.{refl}
use Rattle.files.specs.Sets.{common}
use Rattle.files.proofs.sets.common.Goals as goal

pub returns : goal.returns
unfolding common
returns c = refl
