-- `Block::put_number` meets its contract: the library's text of a number is its digits.
use Rattle.std.proofs.Common.{arith, ap, ◌∙◌, ◌≡◌, length}
use Rattle.listing.specs.Text.{digits}
use Rattle.listing.proofs.Blocks.{decimal_is, digits_few, writes_same}
use Rattle.listing.proofs.block.Block.put_number.Goals as goal

pub put-requires : goal.put-requires
put-requires c =
    let text : c.as_bytes.result.now ≡ digits c.args.n = c.as_bytes.ensures.value ∙ c.format.ensures.text ∙ decimal_is c.args.n (omega (arith, c.ranges.n)) in
    omega (arith, ap length text, digits_few c.args.n, c.requires)

pub returns : goal.returns
returns c =
    let text : c.as_bytes.result.now ≡ digits c.args.n = c.as_bytes.ensures.value ∙ c.format.ensures.text ∙ decimal_is c.args.n (omega (arith, c.ranges.n)) in
    writes_same _ _ _ _ text c.put.ensures
