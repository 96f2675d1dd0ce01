-- `reachable::sheet::Sheet::lay_paths` meets its contract.
use Prim.Native.Nat.{◌-◌}
use mathlib.Core.Path.{◌≡◌}
use Rattle.reachable.specs.Arrays.{parent_of}
use Rattle.reachable.specs.Sheet.{lay_paths}
use Rattle.reachable.proofs.sheet.Sheet.lay_paths.Given as goal

abbrev pub invariant-loop-x : goal.invariant-loop-x
invariant-loop-x l = lay_paths (parent_of l.table.parent) (l.table.paths - l.x) l.x l.self ≡ lay_paths (parent_of l.table.parent) (l.table.paths - 1) 1 l.initial.self
