-- `files::sets::with` meets its contract: the bit is put in below 64, and nothing changes from there on.
use mathlib.Core.Path.{sym}
use Rattle.files.proofs.SetWords.{with_or}
use Rattle.files.proofs.SetBits.{with_past}
use Rattle.files.proofs.sets.with.Goals as goal

pub returns-then-x-lt64 : goal.returns-then-x-lt64
returns-then-x-lt64 c = with_or c.args.w c.args.x c.if-x-lt64.true

pub returns-else-x-lt64 : goal.returns-else-x-lt64
returns-else-x-lt64 c = sym (with_past c.args.w c.args.x c.if-x-lt64.false)
