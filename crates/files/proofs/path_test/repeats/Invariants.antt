-- What remains decides.
use Rattle.std.proofs.Common.{◌≡◌, ◌-◌}
use Rattle.files.specs.RuleFile.{repeats}
use Rattle.files.specs.Rules.{paths_from}
use Rattle.files.proofs.path_test.repeats.Given as goal

abbrev pub invariant-loop-x : goal.invariant-loop-x
invariant-loop-x l = repeats (paths_from l.parent l.label l.x (l.own - l.x)) l.p l.l ≡ repeats (paths_from l.parent l.label 1 (l.own - 1)) l.p l.l
