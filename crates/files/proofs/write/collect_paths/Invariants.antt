-- What is collected and what remains is the whole.
use Rattle.std.proofs.Common.{◌≡◌, ◌-◌, ◌*◌, ◌++◌, length}
use Rattle.files.specs.RuleFile.{path_numbers}
use Rattle.files.specs.Rules.{paths_from}
use Rattle.files.specs.Writing.{path_section}
use Rattle.files.proofs.write.collect_paths.Given as goal

abbrev pub invariant-loop-x : goal.invariant-loop-x
invariant-loop-x l =
    (length l.numbers.items ≡ 2 * l.x)
    × (l.numbers.items ++ path_numbers (paths_from l.rules.parent l.rules.label l.x (l.rules.paths - l.x)) ≡ path_section l.rules.parent l.rules.label l.rules.paths)
