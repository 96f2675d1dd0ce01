-- `handed::plan::Plan::number_parts` meets its contract: what is numbered and what remains is the whole.
use Rattle.std.proofs.Common.{rules, arith, ◌≡◌, ◌∙◌, ap}
use Rattle.handed.specs.Plan.{order_in}
use Rattle.handed.specs.Order.{coming}
use Rattle.handed.proofs.Emitting.{room_step}
use Rattle.handed.proofs.EmittingParts.{order_room}
use Rattle.handed.proofs.Ordering.{come_small}
use Rattle.handed.proofs.Places.{place_start, place_on, place_end}
use Rattle.handed.proofs.plan.Plan.number_parts.Goals as goal

pub loop-path-init : goal.loop-path-init
loop-path-init c =
    let is : coming c.into_iter-path-iterator.result ≡ order_in c.args.sheet.now = ap coming c.into_iter-path-iterator.ensures.into_iter_gives ∙ c.new-path-items.ensures in
    (omega (arith, order_room 65 _ _ 33280 is (omega arith)), place_start _ _ _ is)

pub parts_on-many-requires : goal.parts_on-many-requires
parts_on-many-requires c = come_small c.loop-path.path-iterator c.in-Some.ensures.steps

pub set_first-requires : goal.set_first-requires
set_first-requires c = come_small c.loop-path.path-iterator c.in-Some.ensures.steps

pub loop-path-preserved : goal.loop-path-preserved
loop-path-preserved c = (omega (arith, room_step 65 _ _ _ c.in-Some.ensures.steps), search (rules, place_on, c.in-Some.ensures.steps))

pub returns : goal.returns
returns c = (place_end _ _ _ _ c.loop-path.invariant.1 c.in-None.ensures.steps.0, omega arith)
