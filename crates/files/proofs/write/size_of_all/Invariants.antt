-- What is counted and what remains is the whole.
use Rattle.std.proofs.Common.{◌≡◌, ◌+◌, ◌*◌, ◌≤◌, length}
use Rattle.files.specs.Number.{bytes_of_all}
use Rattle.files.specs.Writing.{wrapped}
use Rattle.files.proofs.Stores.{bytes_from}
use Rattle.files.proofs.write.size_of_all.Given as goal

abbrev pub invariant-loop-n : goal.invariant-loop-n
invariant-loop-n l =
    (l.size ≤ 2 * l.n-index) × (l.size + length (bytes_from l.numbers l.n-index) ≡ length (bytes_of_all (wrapped l.numbers)))
