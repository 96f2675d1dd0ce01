-- The depths are those of the paths so far, and what remains decides.
use Rattle.std.proofs.Common.{◌≡◌, ◌-◌, []}
use Rattle.files.specs.RuleFile.{depths}
use Rattle.files.specs.Rules.{paths_from, padded}
use Rattle.files.specs.TableTest.{paths_pass}
use Rattle.files.proofs.valid.paths_pass.Given as goal

abbrev pub invariant-loop-own : goal.invariant-loop-own
invariant-loop-own l =
    (l.depth ≡ padded 64 (depths (paths_from l.rules.parent l.rules.label 1 (l.own - 1))))
    × (paths_pass (paths_from l.rules.parent l.rules.label 1 (l.own - 1)) (paths_from l.rules.parent l.rules.label l.own (l.rules.paths - l.own))
    ≡ paths_pass [] (paths_from l.rules.parent l.rules.label 1 (l.rules.paths - 1)))
