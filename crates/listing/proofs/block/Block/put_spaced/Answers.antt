-- `Block::put_spaced` meets its contract.
use Rattle.std.proofs.Common.{sym, arith, []}
use Rattle.listing.proofs.Blocks.{spaced_is, left_after, filled_after, writes_both, writes_same}
use Rattle.listing.proofs.block.Block.put_spaced.Goals as goal

pub put_number-requires : goal.put_number-requires
put_number-requires c = omega (arith, left_after _ [] _ _ c.put.new.self c.put.ensures, filled_after _ [] _ _ c.put.new.self c.put.ensures, c.requires)

pub returns : goal.returns
returns c = writes_same _ _ _ _ (sym (spaced_is c.args.n)) (writes_both _ _ _ _ _ c.put.ensures c.put_number.ensures)
