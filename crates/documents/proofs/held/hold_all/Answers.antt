-- `documents::held::hold_all` meets its contract: part after part, from the last.
use Rattle.std.proofs.Common.{rules, refl, ◌<◌}
use Rattle.documents.proofs.Holding.{link_start, link_more}
use Rattle.documents.proofs.held.hold_all.Goals as goal

pub loop-n-init : goal.loop-n-init
loop-n-init c = link_start _ _ _ _ _ _ _ c.requires.2 c.requires.3 c.requires.4

pub loop-n-preserved : goal.loop-n-preserved
loop-n-preserved c =
    let some : 0 < c.loop-n.n = search rules in
    link_more _ _ _ _ c.requires.0 c.requires.1 _ _ _ _ c.loop-n.invariant some _ _ _ c.from-path.ensures c.children_hold.ensures c.with.ensures
