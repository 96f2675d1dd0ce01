-- `reachable::sheet::Sheet::lay_absences` meets its contract.
use Prim.Native.Nat.{◌-◌, ◌≤◌}
use mathlib.Core.Path.{◌≡◌}
use Rattle.files.specs.Rules.{rules_from}
use Rattle.reachable.specs.Arrays.{rule_list}
use Rattle.reachable.specs.Sheet.{lay_absences}
use Rattle.reachable.proofs.sheet.Sheet.lay_absences.Given as goal

abbrev pub invariant-loop-r : goal.invariant-loop-r
invariant-loop-r l = (l.row ≤ l.r) × (lay_absences (rules_from l.table.kind l.table.left l.table.right l.r (l.table.rules - l.r)) l.r l.row l.self ≡ lay_absences (rule_list l.table.kind l.table.left l.table.right l.table.rules) 0 0 l.initial.self)
