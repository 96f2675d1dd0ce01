-- `entry::bozdurmek_ask` meets its contract.
use mathlib.Core.Path.{refl, ap}
use Rattle.files.specs.Reading.{read_answered}
use Rattle.entry.proofs.Calling.{file_refused, file_accepted, laid}
use Rattle.entry.proofs.bozdurmek_ask.Goals as goal

pub returns-in-Err : goal.returns-in-Err
returns-in-Err c = file_refused _ _ c.read_rules-reading.ensures _ _ (ap read_answered c.in-Err.is) (c.refusal.ensures, refl)

pub returns-in-Ok : goal.returns-in-Ok
returns-in-Ok c = file_accepted _ _ c.read_rules-reading.ensures _ _ (ap read_answered c.in-Ok.is) (laid _ c.replied.ensures c.ask.ensures)
