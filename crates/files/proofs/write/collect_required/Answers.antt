-- `files::write::collect_required` meets its contract.
use Rattle.std.proofs.Common.{rules, arith, ap, ◌<◌, ◌∷◌, [], length}
use lib.ListN.{length-append}
use Rattle.files.proofs.Collect.{members_laws, members_fit, members_room, members_on}
use Rattle.files.proofs.MembersGone.{next_small}
use Rattle.files.proofs.write.collect_required.Goals as goal

pub loop-x-init : goal.loop-x-init
loop-x-init c = search (rules, members_laws, next_small)

pub overflow_cast-x : goal.overflow_cast-x
overflow_cast-x c = search (rules, members_laws, next_small)

pub push-requires-in-loop-x : goal.push-requires-in-loop-x
push-requires-in-loop-x c =
    let few : length c.loop-x.numbers.items < 962 =
    members_fit _ c.in-Some.ensures.steps _ _ c.args.required c.loop-x.invariant.0 (omega (arith, c.requires, ap length c.push.ensures.items, length-append c.args.numbers.now.items (c.size.result ∷ []))) in
    search rules

pub loop-x-preserved : goal.loop-x-preserved
loop-x-preserved c = (
  members_room _ c.in-Some.ensures.steps _ _ c.push-in-loop-x.ensures.items _ c.loop-x.invariant.0,
  members_on _ c.in-Some.ensures.steps _ _ c.push-in-loop-x.ensures.items _ c.loop-x.invariant.1,
)

pub returns : goal.returns
returns c = search (rules, members_laws, next_small)
