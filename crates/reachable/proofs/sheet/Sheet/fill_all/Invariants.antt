-- `reachable::sheet::Sheet::fill_all` meets its contract.
use mathlib.Core.Path.{◌≡◌}
use Rattle.reachable.specs.Grow.{work, fill_down, fill_all}
use Rattle.reachable.proofs.sheet.Sheet.fill_all.Given as goal

abbrev pub invariant-loop-c : goal.invariant-loop-c
invariant-loop-c l = (fill_down l.base l.c (work l.self l.known.reached l.known.steps)).sheet ≡ fill_all l.base l.row l.count l.initial.self
