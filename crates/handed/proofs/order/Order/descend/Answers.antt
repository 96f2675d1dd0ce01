-- The next layer's paths are those that come where none of this layer is left.
use Rattle.std.proofs.Common.{arith, sym, refl, inl, inr}
use Rattle.handed.proofs.Ordering.{come_down, come_none}
use Rattle.handed.proofs.order.Order.descend.Goals as goal
use Rattle.handed.proofs.order.Order.descend.Goals.{else-self-eq0-via-then-self-eq0+else-self-ne0, else-self-eq0-via-else-self-eq0}

pub returns-then-self-ne0-clause-same : goal.returns-then-self-ne0-clause-same
returns-then-self-ne0-clause-same c = rw c.if-self-eq0.true (sym (come_down _ _ _ _ (omega arith)))

pub returns-then-self-ne0-clause-done : goal.returns-then-self-ne0-clause-done
returns-then-self-ne0-clause-done c = λ e. rw e (come_none _ _ 0 (inr refl))

pub returns-else-self-eq0-clause-done : goal.returns-else-self-eq0-clause-done
returns-else-self-eq0-clause-done c =
    λ e.
    elim c.else-self-eq0.branch [
      | else-self-eq0-via-then-self-eq0+else-self-ne0 w ↦ rw e (come_none _ _ _ (inl (omega arith)))
      | else-self-eq0-via-else-self-eq0 w ↦ absurd (omega arith)
    ]
