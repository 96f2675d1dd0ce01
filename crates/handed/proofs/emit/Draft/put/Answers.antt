-- `handed::emit::Draft::put` meets its contract: counted first, then stored where it fits.
use Rattle.std.proofs.Common.{rules, arith}
use Rattle.handed.proofs.EmittingParts.{put_none, put_laws}
use Rattle.handed.proofs.emit.Draft.put.Goals as goal

pub returns-then-out-size : goal.returns-then-out-size
returns-then-out-size c = rw c.at.ensures (put_none _ _ _ _ c.emit-size.ensures _ (omega arith))

pub returns : goal.returns
returns c = search (rules, put_laws)
