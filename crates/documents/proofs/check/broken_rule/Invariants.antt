-- The rules that are left decide.
use Rattle.std.proofs.Common.{◌≡◌, ◌-◌}
use Rattle.files.specs.Rules.{rules_from}
use Rattle.documents.specs.Held.{broken_along}
use Rattle.documents.specs.PartList.{part_limit}
use Rattle.documents.specs.Reading.{parent_at}
use Rattle.documents.proofs.check.broken_rule.Given as goal

abbrev pub invariant-loop-r : goal.invariant-loop-r
invariant-loop-r l =
    broken_along (parent_at l.parent) part_limit l.held.sets l.held.first l.held.next l.r (rules_from l.rules.kind l.rules.left l.rules.right l.r (l.rules.rules - l.r))
    ≡ broken_along (parent_at l.parent) part_limit l.held.sets l.held.first l.held.next 0 (rules_from l.rules.kind l.rules.left l.rules.right 0 l.rules.rules)
