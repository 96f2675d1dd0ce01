-- `printing::print_verdict` meets its contract.
use mathlib.Core.Path.{ap}
use borrow.Author.Rules.{rules}
use native.Mathlib.Omega.{arith}
use Rattle.reasoning.specs.Verdict.{verdict}
use Rattle.printing.proofs.Verdicts.{taken_all, never_refused, document_within, document_printed, evidence_within, evidence_printed}
use Rattle.printing.proofs.print_verdict.Goals as goal

pub slice_bounds-lay-end : goal.slice_bounds-lay-end
slice_bounds-lay-end c = taken_all _ _ (document_within _ (omega (arith, c.well_formed)) _ _ _ c.requires c.in-Ok-Consistent.n (search rules))

pub slice_bounds-lay-end-in-Ok-Inconsistent : goal.slice_bounds-lay-end-in-Ok-Inconsistent
slice_bounds-lay-end-in-Ok-Inconsistent c = taken_all _ _ (evidence_within _ (omega (arith, c.well_formed)) _ _ _ c.requires c.in-Ok-Inconsistent.n (search rules))

pub returns-in-Ok-Consistent : goal.returns-in-Ok-Consistent
returns-in-Ok-Consistent c = document_printed _ (omega (arith, c.well_formed)) _ _ _ c.requires c.in-Ok-Consistent.n (search rules)
    (λ i. omega (arith, c.type_inv.document i)) _ _ c.lay.ensures

pub returns-in-Ok-Inconsistent : goal.returns-in-Ok-Inconsistent
returns-in-Ok-Inconsistent c = evidence_printed _ (omega (arith, c.well_formed)) _ _ _ c.requires c.in-Ok-Inconsistent.n (search rules) _ _ c.lay-in-Ok-Inconsistent.ensures

pub returns-in-Err : goal.returns-in-Err
returns-in-Err c = absurd (never_refused _ (omega (arith, c.well_formed)) _ _ _ c.requires _ _ (ap verdict c.in-Err.is))
