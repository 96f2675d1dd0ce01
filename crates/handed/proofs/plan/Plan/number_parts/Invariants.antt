-- `handed::plan::Plan::number_parts` meets its contract: what is numbered and what remains is the whole.
use Rattle.std.proofs.Common.{◌+◌, ◌≤◌, ◌≡◌}
use Rattle.handed.specs.Plan.{order_in, placing, place_each}
use Rattle.handed.specs.Order.{coming}
use Rattle.handed.proofs.Emitting.{room}
use Rattle.handed.proofs.plan.Plan.number_parts.Given as goal

abbrev pub invariant-loop-path : goal.invariant-loop-path
invariant-loop-path l = (l.at + room 65 (coming l.path-iterator) ≤ 33280) × (place_each (coming l.path-iterator) (placing l.at l.self) ≡ place_each (order_in l.sheet) (placing 0 l.initial.self))
