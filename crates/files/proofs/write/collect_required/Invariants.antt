-- What is collected and what remains is the whole.
use Rattle.std.proofs.Common.{◌≡◌, ◌+◌, ◌++◌, length}
use Rattle.files.specs.Sets.{members}
use Rattle.files.specs.Writing.{required_section}
use Rattle.files.proofs.write.collect_required.Given as goal

abbrev pub invariant-loop-x : goal.invariant-loop-x
invariant-loop-x l =
    (length l.numbers.items + length (members l.x-iterator.0) ≡ length l.initial.numbers.items + length (members l.required))
    × (l.numbers.items ++ members l.x-iterator.0 ≡ l.fn.numbers.items ++ required_section l.required)
