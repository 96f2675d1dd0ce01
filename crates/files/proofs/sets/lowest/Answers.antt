-- `files::sets::lowest` meets its contract: the zeros at the word's low end.
use native.Mathlib.Omega.{arith}
use Rattle.files.proofs.SetWords.{lowest_trailing}
use Rattle.files.proofs.sets.lowest.Goals as goal

pub overflow_cast-result : goal.overflow_cast-result
overflow_cast-result c = omega (arith, lowest_trailing c.args.w)

pub returns : goal.returns
returns c = lowest_trailing c.args.w
