-- `listing::lay::lay_refusal` meets its contract.
use Rattle.std.proofs.Common.{rules, arith, sym, ap, ◌∙◌, length, []}
use Rattle.listing.specs.Lay.{refused_word}
use Rattle.listing.proofs.Blocks.{spaced_few, left_after, filled_after, writes_both}
use Rattle.listing.proofs.Laying.{refusal_written}
use Rattle.listing.proofs.lay.lay_refusal.Goals as goal

pub put_last-requires : goal.put_last-requires
put_last-requires c =
    omega (
      arith,
      spaced_few c.args.number,
      left_after _ [] _ _ c.put.new.self c.put.ensures,
      filled_after _ [] _ _ c.put.new.self c.put.ensures,
      left_after _ [] _ _ c.put_spaced.new.self c.put_spaced.ensures,
      filled_after _ [] _ _ c.put_spaced.new.self c.put_spaced.ensures,
      ap length c.new-block.ensures.out,
      c.new-block.ensures.filled,
      c.if-out-lt-REFUSAL.false,
    )

pub returns : goal.returns
unfolding refused_word
returns c =
    let all = writes_both _ _ _ _ _ c.put.ensures (writes_both _ _ _ _ _ c.put_spaced.ensures c.put_last.ensures) in
    let same = sym c.new-block.ensures.same_reference ∙ sym all.same in
    refusal_written _ _ _ _ _ _ _ c.if-out-lt-REFUSAL.false c.new-block.ensures.out c.new-block.ensures.filled all (search rules) c.filled.ensures
