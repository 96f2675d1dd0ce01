-- What the paths to come still join to what is joined already is what all of them join to the first word.
use Rattle.std.proofs.Common.{ℕ, ◌<◌, ◌≡◌}
use Rattle.files.specs.Sets.{members, join_words}
use Rattle.files.proofs.members.joined.Given as goal

abbrev pub invariant-loop-x : goal.invariant-loop-x
invariant-loop-x g l =
    (f : ℕ → ℕ) → ((x r : ℕ) → x < 64 → goal.F-post g l.word x r → r ≡ f x)
    → join_words f (members l.x-iterator.0) l.all ≡ join_words f (members l.fn.set) l.fn.first
