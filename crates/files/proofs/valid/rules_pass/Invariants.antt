-- What remains decides.
use Rattle.std.proofs.Common.{◌≡◌, ◌-◌}
use Rattle.files.specs.Rules.{rules_from}
use Rattle.files.specs.TableTest.{rules_pass}
use Rattle.files.proofs.valid.rules_pass.Given as goal

abbrev pub invariant-loop-x : goal.invariant-loop-x
invariant-loop-x l =
    rules_pass l.rules.paths (rules_from l.rules.kind l.rules.left l.rules.right l.x (l.rules.rules - l.x))
    ≡ rules_pass l.rules.paths (rules_from l.rules.kind l.rules.left l.rules.right 0 l.rules.rules)
