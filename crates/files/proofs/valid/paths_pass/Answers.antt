-- `files::valid::paths_pass` meets its contract.
use Rattle.std.proofs.Common.{rules}
use Rattle.files.proofs.Tester.{pass_laws}
use Rattle.files.proofs.valid.paths_pass.Goals as goal

pub loop-own-init : goal.loop-own-init
loop-own-init c = search (rules, pass_laws)

pub returns-in-None : goal.returns-in-None
returns-in-None c = search (rules, pass_laws)

pub loop-own-preserved : goal.loop-own-preserved
loop-own-preserved c = search (rules, pass_laws)

pub returns : goal.returns
returns c = search (rules, pass_laws)
