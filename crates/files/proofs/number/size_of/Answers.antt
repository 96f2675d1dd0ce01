-- `files::number::size_of` meets its contract: a number below 128 takes one byte, any other two.
use borrow.Author.Rules.{rules}
use Rattle.files.proofs.Stores.{size_laws}
use Rattle.files.proofs.number.size_of.Goals as goal

pub returns-then-n-lt128 : goal.returns-then-n-lt128
returns-then-n-lt128 c = search (rules, size_laws)

pub returns : goal.returns
returns c = search (rules, size_laws)
