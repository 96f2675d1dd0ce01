-- What is collected and what remains is the whole.
use Rattle.std.proofs.Common.{◌≡◌, ◌+◌, ◌-◌, ◌*◌, ◌++◌, length}
use Rattle.files.specs.RuleFile.{rule_numbers}
use Rattle.files.specs.Rules.{rules_from}
use Rattle.files.specs.Writing.{rule_section}
use Rattle.files.proofs.write.collect_rules.Given as goal

abbrev pub invariant-loop-x : goal.invariant-loop-x
invariant-loop-x l =
    (length l.numbers.items ≡ length l.fn.numbers.items + 1 + 3 * l.x)
    × (l.numbers.items ++ rule_numbers (rules_from l.rules.kind l.rules.left l.rules.right l.x (l.rules.rules - l.x))
    ≡ l.fn.numbers.items ++ rule_section l.rules.kind l.rules.left l.rules.right l.rules.rules)
