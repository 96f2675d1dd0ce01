-- The required paths so far are in the set.
use Rattle.files.proofs.RulesRead.{RequiredSoFar}
use Rattle.files.proofs.read.read_required.Given as goal

abbrev pub invariant-loop : goal.invariant-loop
invariant-loop l = RequiredSoFar l.fn.reader l.reader l.count l.many l.counter l.required l.last
