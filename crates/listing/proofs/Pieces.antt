-- How long the text of a number is.
use Prim.Native.Nat.{ℕ, ◌≤◌}
use mathlib.Core.Bool.{Bool, true}
use native.Mathlib.Omega.{arith}
use lib.ListN.{length, length-append}
use lib.Dec.{eqb, leb}
use mathlib.Core.List.{[], ◌∷◌}
use Rattle.listing.specs.declared.lay.Stage.{Stage}
use Rattle.listing.specs.declared.lay.Stage.TheVariants.{Count, Path, Children, Child, First, More}
use Rattle.listing.specs.Text.{digits, spaced, feed}
use Rattle.listing.specs.Lay.{consistent, inconsistent, piece_text}
use Rattle.listing.proofs.Blocks.{digits_few, spaced_few, feed_few}

-- no number's text is longer than 48 bytes
pub piece_few : (stage : Stage) (part left : ℕ) (last : Bool) (x : ℕ) → length (piece_text stage part left last x) ≤ 48
unfolding piece_text consistent inconsistent
piece_few Count part left last x = omega (arith, length-append (spaced (x ∷ [])) (feed true), spaced_few x, feed_few true)
piece_few Path part left last x = omega (arith, length-append (digits part) (spaced (x ∷ [])), digits_few part, spaced_few x)
piece_few Children part left last x = omega (arith, feed_few (eqb x 0))
piece_few Child part left last x = omega (arith, length-append (spaced (x ∷ [])) (feed (leb left 1)), spaced_few x, feed_few (leb left 1))
piece_few First part left last x = omega (arith, length-append (spaced (x ∷ [])) (feed last), spaced_few x, feed_few last)
piece_few More part left last x = omega (arith, length-append (spaced (x ∷ [])) (feed last), spaced_few x, feed_few last)
