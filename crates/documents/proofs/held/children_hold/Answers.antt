-- `documents::held::children_hold` meets its contract: a count, then so many children.
use Rattle.std.proofs.Common.{rules, refl, ◌≡◌, ◌<◌, ◌≤◌, get_or, length}
use Rattle.files.specs.Sets.{union}
use Rattle.documents.specs.PartList.{part_limit}
use Rattle.documents.proofs.Holding.{children_none, children_start, children_stop, children_more, children_end}
use Rattle.documents.proofs.held.children_hold.Goals as goal

pub returns-in_default : goal.returns-in_default
returns-in_default c = children_none _ _ _ refl _ _ c.in_default.ensures

pub loop-init : goal.loop-init
loop-init c = children_start _ _ _ refl _ _ c.in-Ok.ensures

pub returns-in_default-number : goal.returns-in_default-number
returns-in_default-number c =
    let left : c.loop.counter < c.in-Ok.many = search rules in
    children_stop _ _ _ _ _ _ _ c.loop.invariant left _ _ c.in_default-number.ensures

pub loop-preserved : goal.loop-preserved
loop-preserved c =
    let left : c.loop.counter < c.in-Ok.many = search rules in
    let set : c.union-set.result ≡ union c.loop.set (get_or c.args.held.now c.in-Ok-number.kid 0) = search rules in
    let long : length c.args.held.now ≡ part_limit = search rules in
    children_more _ _ _ _ _ _ _ c.loop.invariant left _ _ _ c.in-Ok-number.ensures long set

pub returns : goal.returns
returns c =
    let all : c.in-Ok.many ≤ c.loop.counter = search rules in
    children_end _ _ _ _ _ _ _ c.loop.invariant all
