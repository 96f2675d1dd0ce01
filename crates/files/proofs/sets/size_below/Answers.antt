-- `files::sets::size_below` meets its contract: the ones of the word cut off at x.
use native.Mathlib.Omega.{arith}
use Rattle.files.proofs.SetWords.{size_below_and}
use Rattle.files.proofs.sets.size_below.Goals as goal

pub overflow_cast-result : goal.overflow_cast-result
overflow_cast-result c = omega
    (arith, size_below_and c.args.w c.args.x c.below.result c.ranges.w.fits c.below.ensures)

pub returns : goal.returns
returns c = size_below_and c.args.w c.args.x c.below.result c.ranges.w.fits c.below.ensures
