-- `files::sets::without_lowest` meets its contract: what a word and the word below it have in common.
use Rattle.files.proofs.SetWords.{without_lowest_none, without_lowest_some}
use Rattle.files.proofs.sets.without_lowest.Goals as goal

pub returns-then-w-eq0 : goal.returns-then-w-eq0
returns-then-w-eq0 c = without_lowest_none c.args.w c.if-w-eq0.true

pub returns-else-w-eq0 : goal.returns-else-w-eq0
returns-else-w-eq0 c = without_lowest_some c.args.w c.ranges.w.fits c.if-w-eq0.false
