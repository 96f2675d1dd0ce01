-- What is laid out, and what remains from here, is the whole.
use Rattle.std.proofs.Common.{◌≡◌, ◌-◌, length}
use Rattle.listing.proofs.Laying.{LaySoFar}
use Rattle.listing.proofs.lay.lay.Given as goal

abbrev pub invariant-loop-place : goal.invariant-loop-place
invariant-loop-place l =
    LaySoFar l.bytes l.initial.place l.initial.block.out.now l.block.out.now l.place l.block.filled × (l.block.out.ghost_name ≡ l.initial.block.out.ghost_name)

abbrev pub decreases-loop-place : goal.decreases-loop-place
decreases-loop-place l = length l.bytes - l.place.at
