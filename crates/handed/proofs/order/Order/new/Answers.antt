-- A new order gives all the paths.
use Rattle.std.proofs.Common.{rules}
use Rattle.handed.proofs.Ordering.{come_start}
use Rattle.handed.proofs.order.Order.new.Goals as goal

pub returns : goal.returns
returns c = search (rules, come_start)
