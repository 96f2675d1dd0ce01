-- `entry::bozdurmek_check` meets its contract.
use mathlib.Core.Path.{ap}
use Rattle.files.specs.Reading.{read_answered}
use Rattle.entry.proofs.Calling.{file_refused, file_accepted, laid}
use Rattle.entry.proofs.bozdurmek_check.Goals as goal

pub returns-in-Err : goal.returns-in-Err
returns-in-Err c = file_refused _ _ c.read_rules-reading.ensures _ _ (ap read_answered c.in-Err.is) c.refusal.ensures

pub returns-in-Ok : goal.returns-in-Ok
returns-in-Ok c = file_accepted _ _ c.read_rules-reading.ensures _ _ (ap read_answered c.in-Ok.is) (laid _ c.judged.ensures c.check_document.ensures)
