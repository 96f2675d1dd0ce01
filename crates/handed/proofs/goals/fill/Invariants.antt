-- `handed::goals::fill` meets its contract: what is chosen and what remains is the whole.
use Rattle.std.proofs.Common.{◌-◌, ◌^◌, ◌<◌, ◌≡◌}
use Rattle.handed.specs.Goals.{fill_in}
use Rattle.handed.proofs.goals.fill.Given as goal

abbrev pub invariant-loop : goal.invariant-loop
invariant-loop l = (l.left < 2 ^ 64) × (l.slot < 8) × (fill_in l.sheet l.slot (64 - l.counter) l.left l.chosen ≡ fill_in l.sheet l.slot 64 l.uncovered l.own)
