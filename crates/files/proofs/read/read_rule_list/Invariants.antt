-- The rules so far are in the arrays.
use Rattle.files.proofs.RulesRead.{RulesSoFar}
use Rattle.files.proofs.read.read_rule_list.Given as goal

abbrev pub invariant-loop-i : goal.invariant-loop-i
invariant-loop-i l = RulesSoFar l.fn.reader l.reader l.count l.many l.kinds l.lefts l.rights l.i
