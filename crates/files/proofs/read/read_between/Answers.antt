use Rattle.std.proofs.Common.{ap}
use Rattle.files.specs.Number.{begun}
use Rattle.files.proofs.Passed.{tested_low, tested_past}
use Rattle.files.proofs.read.read_between.Goals as goal

pub returns-then-n-low : goal.returns-then-n-low
returns-then-n-low c =
    tested_low c.args.low c.args.past c.args.refusal (begun c.read_number.result) _ c.read_number.ensures.begun (ap begun c.in-Ok.is) c.if-n-low.true c.passed.ensures

pub returns-then-past-n : goal.returns-then-past-n
returns-then-past-n c =
    tested_past c.args.low c.args.past c.args.refusal (begun c.read_number.result) _ c.read_number.ensures.begun (ap begun c.in-Ok.is) c.if-n-low.false c.if-past-n.true c.passed-then-past-n.ensures
