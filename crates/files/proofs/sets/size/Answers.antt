-- `files::sets::size` meets its contract: the ones of the word.
use native.Mathlib.Omega.{arith}
use Rattle.files.proofs.SetWords.{size_ones}
use Rattle.files.proofs.sets.size.Goals as goal

pub overflow_cast-result : goal.overflow_cast-result
overflow_cast-result c = omega (arith, size_ones c.args.w c.ranges.w.fits)

pub returns : goal.returns
returns c = size_ones c.args.w c.ranges.w.fits
