-- `files::number::put_number` meets its contract: its bytes are stored one by one.
use borrow.Author.Rules.{rules}
use Rattle.files.proofs.Stores.{store_laws}
use Rattle.files.proofs.number.put_number.Goals as goal

pub bounds-out-at : goal.bounds-out-at
bounds-out-at c = search (rules, store_laws)

pub returns-then-n-lt128 : goal.returns-then-n-lt128
returns-then-n-lt128 c = search (rules, store_laws)

pub bounds-out-at-2 : goal.bounds-out-at-2
bounds-out-at-2 c = search (rules, store_laws)

pub bounds-out-at-3 : goal.bounds-out-at-3
bounds-out-at-3 c = search (rules, store_laws)

pub returns : goal.returns
returns c = search (rules, store_laws)
