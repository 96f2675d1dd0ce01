-- `Block::put` meets its contract: the text is copied to the end of what is filled.
use Rattle.std.proofs.Common.{refl}
use Rattle.listing.proofs.Blocks.{copied}
use Rattle.listing.proofs.block.Block.put.Goals as goal

pub returns : goal.returns
returns c =
    record {
      stored = record { next = refl; bytes = copied _ _ _ _ c.requires c.copy_from_slice.ensures.after };
      same = refl;
    }
