-- The paths so far are in the arrays.
use Rattle.files.proofs.PathsRead.{PathsSoFar}
use Rattle.files.proofs.read.read_paths.Given as goal

abbrev pub invariant-loop-own : goal.invariant-loop-own
invariant-loop-own l = PathsSoFar l.fn.reader l.reader l.count l.root l.parents l.labels l.depth l.own
