-- The paths that an order has still to give.
use Rattle.std.specs.Prelude.{ℕ, List, ◌++◌}
use Rattle.files.specs.Sets.{members}
use Rattle.reachable.specs.Sheet.{row, child_at}
use Rattle.theory.specs.Handed.{gather}
use Rattle.handed.specs.Plan.{layers_in}
use Rattle.handed.specs.declared.order.Order.{Order}

-- those of `layer`, then those of the `left` layers below: `below` has the child paths of the paths of this layer that have come
unfoldable pub to_come : (sheet : List ℕ) (left layer below : ℕ) → List ℕ
to_come sheet left layer below = members layer ++ layers_in sheet left (gather (λ c. row child_at sheet c) 64 layer below)

abbrev pub coming : Order → List ℕ
coming s = to_come s.sheet.now s.left s.layer s.below
