-- `files::sets::has` meets its contract: the bit itself below 64, and no bit from there on.
use mathlib.Core.Path.{refl}
use Rattle.files.specs.Sets.{bit, hasb}
use Rattle.files.proofs.SetWords.{has_past}
use Rattle.files.proofs.sets.has.Goals as goal

pub returns-then-x-lt64 : goal.returns-then-x-lt64
unfolding bit hasb
returns-then-x-lt64 c = refl

pub returns-else-x-lt64 : goal.returns-else-x-lt64
returns-else-x-lt64 c = has_past c.args.w c.args.x c.ranges.w.fits c.if-x-lt64.false
