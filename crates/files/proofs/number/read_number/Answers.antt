-- `files::number::read_number` meets its contract.
use Rattle.std.proofs.Common.{rules, ◌≡◌, drop}
use Rattle.files.specs.Number.{begun, number_in}
use Rattle.files.proofs.Numbers.{at_laws, number_fits}
use Rattle.files.proofs.number.read_number.Goals as goal

pub returns-in_err-ok_or-clause-begun : goal.returns-in_err-ok_or-clause-begun
returns-in_err-ok_or-clause-begun c = search (rules, at_laws)

pub returns-then-low-lt128-clause-begun : goal.returns-then-low-lt128-clause-begun
returns-then-low-lt128-clause-begun c = search (rules, at_laws)

pub returns-in_err-ok_or-2-clause-begun : goal.returns-in_err-ok_or-2-clause-begun
returns-in_err-ok_or-2-clause-begun c = search (rules, at_laws)

pub returns-clause-begun : goal.returns-clause-begun
returns-clause-begun c = search (rules, at_laws)

pub returns-clause-fits : goal.returns-clause-fits
returns-clause-fits c =
    let second : begun c.second.result ≡ number_in (drop c.args.at c.args.s.now) = search (rules, at_laws) in
    number_fits c.args.s.now c.args.at c.second.result second (search rules)
