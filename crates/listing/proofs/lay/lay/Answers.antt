-- `listing::lay::lay` meets its contract.
use Rattle.std.proofs.Common.{rules, refl, sym, ap, ap₂, subst, ◌∙◌, ◌≡◌, ◌≤◌, ◌+◌, ◌-◌, length}
use Rattle.listing.specs.Lay.{place_after, lays, laid_text}
use Rattle.listing.specs.Text.{Stored}
use Rattle.listing.proofs.Laying.{lay_start, lay_room, lay_block, lay_less, lay_more, lay_full, lay_end, laid_block}
use Rattle.listing.proofs.lay.lay.Goals as goal
use Rattle.listing.proofs.lay.lay.Goals.{else-loop-place-test, then-loop-place-test+in-Err}

pub loop-place-init : goal.loop-place-init
loop-place-init c = (rw c.new-block.ensures.filled (lay_start _ _ _), refl)

pub room-requires : goal.room-requires
room-requires c = lay_room _ _ _ _ _ _ c.loop-place.invariant.0

pub put-requires : goal.put-requires
put-requires c =
    let more : 48 ≤ length c.loop-place.block.out.now - c.loop-place.block.filled = search rules in
    lay_block _ _ _ _ _ _ c.loop-place.invariant.0 more _ c.in-Ok.ensures.begun refl

pub loop-place-smaller : goal.loop-place-smaller
loop-place-smaller c =
    let more : 48 ≤ length c.loop-place.block.out.now - c.loop-place.block.filled = search rules in
    let next = c.after-place.ensures ∙ ap (place_after c.loop-place.place.stage (c.loop-place.place.at + c.in-Ok.number.width) c.loop-place.place.part c.loop-place.place.left) c.from-x.ensures in
    lay_less _ _ _ _ _ _ c.loop-place.invariant.0 more _ c.in-Ok.ensures.begun refl _ next

pub loop-place-preserved : goal.loop-place-preserved
loop-place-preserved c =
    let more : 48 ≤ length c.loop-place.block.out.now - c.loop-place.block.filled = search rules in
    let next = c.after-place.ensures ∙ ap (place_after c.loop-place.place.stage (c.loop-place.place.at + c.in-Ok.number.width) c.loop-place.place.part c.loop-place.place.left) c.from-x.ensures in (
      lay_more _ _ _ _ _ _ c.loop-place.invariant.0 more _ c.in-Ok.ensures.begun refl _ next _ _ _ refl (rw c.from-x.ensures at c.put.ensures.stored),
      c.put.ensures.same ∙ c.loop-place.invariant.1,
    )

pub returns : goal.returns
returns c =
    let laid : Stored (lays (length c.args.bytes.now) c.args.bytes.now (length c.new-block.result.out.now) c.first-place.result) c.new-block.result.out.now 0 c.loop-place.block.out.now c.loop-place.block.filled =
    elim c.loop-place-test.branch [
      | else-loop-place-test w ↦ lay_full _ _ _ _ _ _ c.loop-place.invariant.0 (search rules)
      | then-loop-place-test+in-Err w ↦ lay_end _ _ _ _ _ _ c.loop-place.invariant.0 _ w.in-Err.ensures.begun refl
    ] in
    let same = sym c.new-block.ensures.same_reference ∙ sym c.loop-place.invariant.1 in
    let text : lays (length c.args.bytes.now) c.args.bytes.now (length c.new-block.result.out.now) c.first-place.result ≡ laid_text c.args.bytes.now c.args.stage c.args.out.now =
    ap₂ (λ n p. lays (length c.args.bytes.now) c.args.bytes.now n p) (ap length c.new-block.ensures.out) c.first-place.ensures in
    laid_block _ _ _ _ _ _ _ c.new-block.ensures.out (subst (λ t. Stored t c.new-block.result.out.now 0 c.loop-place.block.out.now c.loop-place.block.filled) text laid) (search rules) c.filled.ensures
