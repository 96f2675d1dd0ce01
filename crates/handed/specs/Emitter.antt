-- What an emitter has done between two of its states.
use Rattle.std.specs.Prelude.{ℕ, ◌+◌, ◌≤◌, ◌≡◌, List}
use Rattle.handed.specs.Emit.{Emitted}
use Rattle.handed.specs.declared.emitter.Emitter.{Emitter}

-- the numbers are emitted, in at most so many bytes, and into the buffer that was there
pub record Emits (numbers : List ℕ) (most : ℕ) (old new : Emitter) : Type 0 where
  pub emitted : Emitted numbers old.out.now old.at new.out.now new.at
  pub short : new.at ≤ old.at + most
  pub same : new.out.ghost_name ≡ old.out.ghost_name
