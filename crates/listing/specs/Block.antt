-- What was written into a block between two of its states.
use Rattle.std.specs.Prelude.{ℕ, ◌≡◌, List}
use Rattle.listing.specs.declared.block.Block.{Block}
use Rattle.listing.specs.Text.{Stored}

-- the text stands after what filled the block before, in the buffer that was there
pub record Writes (text : List ℕ) (old new : Block) : Type 0 where
  pub stored : Stored text old.out.now old.filled new.out.now new.filled
  pub same : new.out.ghost_name ≡ old.out.ghost_name
