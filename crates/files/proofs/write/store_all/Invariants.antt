-- What is stored and what remains is the whole.
use Rattle.std.proofs.Common.{◌≡◌, ◌+◌, ◌≤◌, length}
use Rattle.std.proofs.lemmas.List.Edits.{sets}
use Rattle.files.specs.Number.{bytes_of_all}
use Rattle.files.specs.Writing.{wrapped}
use Rattle.files.proofs.Stores.{bytes_from}
use Rattle.files.proofs.write.store_all.Given as goal

abbrev pub invariant-loop-n : goal.invariant-loop-n
invariant-loop-n l =
    (length l.out ≡ length l.initial.out)
    × (l.at + length (bytes_from l.numbers l.n-index) ≤ length l.initial.out)
    × (sets l.out l.at (bytes_from l.numbers l.n-index) ≡ sets l.initial.out 0 (bytes_of_all (wrapped l.numbers)))
