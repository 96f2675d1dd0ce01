-- `documents::context::meet` meets its contract: of two unequal paths the greater number climbs.
use Rattle.std.proofs.Common.{rules}
use Rattle.documents.proofs.Climbing.{meet_right, meet_left}
use Rattle.documents.proofs.context.meet.Goals as goal
use Rattle.documents.proofs.context.meet.Goals.{then-left-right-2, else-left-right-2}

pub loop-preserved : goal.loop-preserved
loop-preserved c =
    elim c.if-left-right-2.branch [
      | then-left-right-2 w ↦ rw (w.left-is, w.right-is) (search (rules, meet_right))
      | else-left-right-2 w ↦ rw (w.left-is, w.right-is) (search (rules, meet_left))
    ]
