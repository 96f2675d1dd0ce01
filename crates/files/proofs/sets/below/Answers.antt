-- `files::sets::below` meets its contract: a power less one below 64, and all bits from there on.
use Rattle.files.proofs.SetWords.{below_pos, below_shl, below_past}
use Rattle.files.proofs.sets.below.Goals as goal

pub overflow_sub-result : goal.overflow_sub-result
overflow_sub-result c = below_pos c.args.x c.if-x-lt64.true

pub returns-then-x-lt64 : goal.returns-then-x-lt64
returns-then-x-lt64 c = below_shl c.args.x c.if-x-lt64.true

pub returns-else-x-lt64 : goal.returns-else-x-lt64
returns-else-x-lt64 c = below_past c.args.x c.if-x-lt64.false
