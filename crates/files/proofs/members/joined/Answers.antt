-- `joined` meets its contract, whatever function the words are.
use Rattle.std.proofs.Common.{◌∙◌, ap, sym}
use Rattle.files.specs.Sets.{join_words, members, union}
use Rattle.files.proofs.MembersGone.{next_small, joins_next, joins_none}
use Rattle.files.proofs.members.joined.Goals as goal

pub word-requires : goal.word-requires
word-requires g c = c.requires c.in-Some.x (next_small _ c.in-Some.ensures.steps)

pub loop-x-preserved : goal.loop-x-preserved
loop-x-preserved g c =
    λ f k.
    ap (join_words f (members c.next.new.self.0)) (c.union-all.ensures ∙ ap (union c.loop-x.all) (k _ _ (next_small _ c.in-Some.ensures.steps) c.word.ensures))
    ∙ sym (joins_next _ c.in-Some.ensures.steps f c.loop-x.all)
    ∙ c.loop-x.invariant f k

pub returns : goal.returns
returns g c = λ f k. sym (joins_none _ c.in-None.ensures.steps.0 f c.loop-x.all) ∙ c.loop-x.invariant f k
