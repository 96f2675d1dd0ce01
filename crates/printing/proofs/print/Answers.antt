-- `printing::print` meets its contract.
use mathlib.Core.Path.{ap}
use borrow.Author.Rules.{rules}
use Rattle.files.specs.Reading.{read_answered}
use Rattle.printing.proofs.Printed.{prints_short, prints_refused, accepted_room, prints_accepted}
use Rattle.printing.proofs.print.Goals as goal

pub returns-then-out-lt-TEXT : goal.returns-then-out-lt-TEXT
returns-then-out-lt-TEXT c = prints_short _ _ (search rules)

pub print_rules-requires : goal.print_rules-requires
print_rules-requires c = accepted_room _ _ c.read_rules-reading.ensures (ap read_answered c.in-Ok.is) _ (search rules)

pub returns-in-Err : goal.returns-in-Err
returns-in-Err c = prints_refused _ _ c.read_rules-reading.ensures _ _ (ap read_answered c.in-Err.is) _ _ _ (search rules) c.print_refusal.ensures

pub returns-in-Ok : goal.returns-in-Ok
returns-in-Ok c = prints_accepted _ _ c.read_rules-reading.ensures (ap read_answered c.in-Ok.is) _ _ _ (search rules) c.print_rules.ensures
