-- `evidence::seek::put_walk` meets its contract.
use Rattle.evidence.proofs.Seeking.{walk_stored}
use Rattle.evidence.proofs.seek.put_walk.Goals as goal

pub returns : goal.returns
returns c = walk_stored _ _ _ _ _ _ _ _ _ _ _ c.below.ensures c.walk_codes-codes.ensures c.len.ensures.value c.len.ensures.fits c.push.ensures.items c.as_slice.ensures.value c.put_all.ensures
