-- `reachable::sheet::Sheet::lay_rules` meets its contract.
use Prim.Native.Nat.{◌-◌}
use mathlib.Core.Path.{◌≡◌}
use Rattle.files.specs.Rules.{rules_from}
use Rattle.reachable.specs.Arrays.{rule_list}
use Rattle.reachable.specs.Sheet.{lay_rules}
use Rattle.reachable.proofs.sheet.Sheet.lay_rules.Given as goal

abbrev pub invariant-loop-r : goal.invariant-loop-r
invariant-loop-r l = lay_rules (rules_from l.table.kind l.table.left l.table.right l.r (l.table.rules - l.r)) l.self ≡ lay_rules (rule_list l.table.kind l.table.left l.table.right l.table.rules) l.initial.self
