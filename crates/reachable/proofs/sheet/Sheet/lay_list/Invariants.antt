-- `reachable::sheet::Sheet::lay_list` meets its contract.
use Prim.Native.Nat.{◌-◌}
use mathlib.Core.Path.{◌≡◌}
use Rattle.files.specs.Rules.{rules_from}
use Rattle.reachable.specs.Arrays.{rule_list}
use Rattle.reachable.specs.Sheet.{lay_list}
use Rattle.reachable.proofs.sheet.Sheet.lay_list.Given as goal

abbrev pub invariant-loop-r : goal.invariant-loop-r
invariant-loop-r l = lay_list (rules_from l.table.kind l.table.left l.table.right l.r (l.table.rules - l.r)) l.r l.self ≡ lay_list (rule_list l.table.kind l.table.left l.table.right l.table.rules) 0 l.initial.self
