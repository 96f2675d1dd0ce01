-- The least path of the layer comes first, and its child paths go below.
use Rattle.std.proofs.Common.{rules, arith, sym, ◌∙◌}
use Rattle.files.proofs.SetLowest.{lowest_lt}
use Rattle.handed.proofs.Ordering.{come_on}
use Rattle.handed.proofs.order.OrderIterator.next.Goals as goal

pub children-requires : goal.children-requires
children-requires c = omega (arith, c.lowest-path.ensures.is, lowest_lt c.descend.new.self.layer)

pub returns-clause-steps : goal.returns-clause-steps
returns-clause-steps c =
    sym c.descend.ensures.same
    ∙ come_on _ _ _ _ _ _ _ _ (search rules) (search rules) c.lowest-path.ensures.is c.without_lowest-self.ensures c.children.ensures c.union-self.ensures

pub returns-clause-goes : goal.returns-clause-goes
returns-clause-goes c = search (rules, returns-clause-steps c)
