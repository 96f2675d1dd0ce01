-- The rules from the next one on find the step that all of them find.
use Prim.Native.Nat.{◌-◌}
use mathlib.Core.Path.{◌≡◌}
use Rattle.reachable.specs.Sheet.{many_in, rules_from_row, rules_on}
use Rattle.theory.specs.Search.{rule_move}
use Rattle.evidence.proofs.seek.rule_move.Given as goal

abbrev pub invariant-loop-r : goal.invariant-loop-r
invariant-loop-r l = rule_move (rules_from_row l.sheet l.r (many_in l.sheet - l.r)) l.r l.x l.s ≡ rule_move (rules_on l.sheet) 0 l.x l.s
