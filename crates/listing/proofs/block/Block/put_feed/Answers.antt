-- `Block::put_feed` meets its contract.
use Rattle.listing.proofs.Blocks.{feeds, feeds_not}
use Rattle.listing.proofs.block.Block.put_feed.Goals as goal

pub returns-then-wanted : goal.returns-then-wanted
returns-then-wanted c = feeds _ _ _ c.if-wanted.true c.put.ensures

pub returns-else-wanted : goal.returns-else-wanted
returns-else-wanted c = feeds_not _ _ c.if-wanted.false
