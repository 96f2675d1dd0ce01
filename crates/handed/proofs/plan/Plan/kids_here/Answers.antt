-- The goals of each one's children, joined to those of the part with all goals, if there is one.
use Rattle.std.proofs.Common.{rules, ◌∙◌}
use Rattle.reachable.specs.Sheet.{slot_of}
use Rattle.handed.specs.Goals.{one_in}
use Rattle.handed.proofs.GoalWords.{kids_whole, kids_plain}
use Rattle.handed.proofs.plan.Plan.kids_here.Goals as goal
use Rattle.handed.proofs.plan.Plan.kids_here.Goals.{then-has, else-has}

pub returns : goal.returns
returns c =
    let joined = c.joined.ensures (one_in c.args.sheet.now (slot_of c.args.sheet.now c.args.path) c.args.path) (λ x r l p. search rules) in
    elim c.if-has.branch [
      | then-has w ↦ kids_whole _ _ _ _ _ _ _ _ c.ranges.here.fits c.whole.ensures c.has.ensures joined w.if-has.true (w.first-is ∙ w.all_kids-first.ensures)
      | else-has w ↦ kids_plain _ _ _ _ _ _ _ _ c.ranges.here.fits c.whole.ensures c.has.ensures joined w.if-has.false w.first-is
    ]
