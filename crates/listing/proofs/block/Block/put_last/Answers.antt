-- `Block::put_last` meets its contract.
use Rattle.std.proofs.Common.{arith, []}
use Rattle.listing.proofs.Blocks.{spaced_few, left_after, filled_after, writes_both}
use Rattle.listing.proofs.block.Block.put_last.Goals as goal

pub put_feed-requires : goal.put_feed-requires
put_feed-requires c =
    omega
    (arith, spaced_few c.args.n, left_after _ [] _ _ c.put_spaced.new.self c.put_spaced.ensures, filled_after _ [] _ _ c.put_spaced.new.self c.put_spaced.ensures, c.requires)

pub returns : goal.returns
returns c = writes_both _ _ _ _ _ c.put_spaced.ensures c.put_feed.ensures
