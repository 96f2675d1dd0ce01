-- `files::sets::without` meets its contract: the bit is taken out below 64, and there is none from there on.
use lib.Bits.{and_le_l}
use Rattle.files.proofs.SetWords.{without_and, without_past}
use Rattle.files.proofs.sets.without.Goals as goal

pub overflow_sub-result : goal.overflow_sub-result
overflow_sub-result c = and_le_l c.args.w _

pub returns-then-x-lt64 : goal.returns-then-x-lt64
returns-then-x-lt64 c = without_and c.args.w c.args.x c.if-x-lt64.true

pub returns-else-x-lt64 : goal.returns-else-x-lt64
returns-else-x-lt64 c = without_past c.args.w c.args.x c.ranges.w.fits c.if-x-lt64.false
