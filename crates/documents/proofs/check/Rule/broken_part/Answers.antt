-- `documents::check::Rule::broken_part` meets its contract: along the parts on the rule's context.
use Rattle.std.proofs.Common.{rules, sym, ap, ◌≡◌, ◌∙◌, get_or, Some, None}
use Rattle.std.specs.Prelude.{Option}
use Rattle.documents.specs.Held.{follow}
use Rattle.documents.proofs.Breaking.{along_start, along_end, along_here, along_on}
use Rattle.documents.proofs.check.Rule.broken_part.Goals as goal

pub loop-part-init : goal.loop-part-init
loop-part-init c =
    let same : c.into_iter-part-iterator.result ≡ c.on_path-part-items.result = search rules in (
      ap (λ i. i.next.now) same ∙ c.on_path-part-items.ensures.0,
      along_start _ _ _ _ _ c.context.result _ c.context.ensures c.context.type_inv (ap (λ i. i.at) same ∙ c.on_path-part-items.ensures.1),
    )

pub returns-then-broken_by : goal.returns-then-broken_by
returns-then-broken_by c =
    along_here _ _ _ _ _ c.loop-part.invariant.1 c.in-Some.part (sym c.in-Some.ensures.steps.0) c.in-Some.ensures.steps.1 _ c.broken_by.ensures c.if-broken_by.true

pub loop-part-preserved : goal.loop-part-preserved
loop-part-preserved c =
    let at : c.loop-part.part-iterator.at ≡ Some c.in-Some.part = sym c.in-Some.ensures.steps.0 in
    let then : c.next.new.self.at ≡ get_or c.args.held.now.next c.in-Some.part None =
    c.in-Some.ensures.steps.3 ∙ ap (λ (a : Option _). follow c.loop-part.part-iterator.next.now a) at
    ∙ ap (λ (l : _). get_or l c.in-Some.part None) c.loop-part.invariant.0 in (
      ap (λ b. b.now) c.in-Some.ensures.steps.2 ∙ c.loop-part.invariant.0,
      along_on _ _ _ _ _ c.loop-part.invariant.1 c.in-Some.part at c.in-Some.ensures.steps.1 _ c.broken_by.ensures _ c.if-broken_by.false c.requires.nexts then,
    )

pub returns : goal.returns
returns c = along_end _ _ _ _ _ c.loop-part.invariant.1 (sym c.in-None.ensures.steps.0)
