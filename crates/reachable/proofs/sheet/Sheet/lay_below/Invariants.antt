-- `reachable::sheet::Sheet::lay_below` meets its contract.
use mathlib.Core.Path.{◌≡◌}
use Rattle.reachable.specs.Arrays.{parent_of}
use Rattle.reachable.specs.Sheet.{lay_below}
use Rattle.reachable.proofs.sheet.Sheet.lay_below.Given as goal

abbrev pub invariant-loop-x : goal.invariant-loop-x
invariant-loop-x l = lay_below (parent_of l.table.parent) l.x l.self ≡ lay_below (parent_of l.table.parent) l.table.paths l.initial.self
