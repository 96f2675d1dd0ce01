-- `Place::put` meets its contract: the text of a number by what it is.
use Rattle.std.proofs.Common.{arith, []}
use Rattle.listing.specs.Lay.{piece_text, consistent, inconsistent}
use Rattle.listing.proofs.Blocks.{digits_few, left_after, filled_after, writes_both}
use Rattle.listing.proofs.lay.Place.put.Goals as goal

pub put_spaced-requires : goal.put_spaced-requires
put_spaced-requires c =
    omega
    (arith, digits_few c.args.self.part, left_after _ [] _ _ c.put_number.new.self c.put_number.ensures, filled_after _ [] _ _ c.put_number.new.self c.put_number.ensures, c.requires)

pub returns-in-Count : goal.returns-in-Count
unfolding piece_text consistent
returns-in-Count c = rw c.in-Count.is (writes_both _ _ _ _ _ c.put.ensures c.put_last.ensures)

pub returns-in-Path : goal.returns-in-Path
unfolding piece_text
returns-in-Path c = rw c.in-Path.is (writes_both _ _ _ _ _ c.put_number.ensures c.put_spaced.ensures)

pub returns-in-Children : goal.returns-in-Children
unfolding piece_text
returns-in-Children c = rw c.in-Children.is c.put_feed.ensures

pub returns-in-Child : goal.returns-in-Child
unfolding piece_text
returns-in-Child c = rw c.in-Child.is c.put_last-in-Child.ensures

pub returns-in-First : goal.returns-in-First
unfolding piece_text inconsistent
returns-in-First c = rw c.in-First.is (writes_both _ _ _ _ _ c.put-in-First.ensures c.put_last-in-First.ensures)

pub returns-in-More : goal.returns-in-More
unfolding piece_text
returns-in-More c = rw c.in-More.is c.put_last-in-More.ensures
