-- What a reader of numbers does: it reads a format from where it stands.
use Rattle.std.specs.Prelude.{ℕ, ◌≡◌, Result, MatchResult, drop}
use Rattle.files.specs.declared.reader.Reader.{Reader}
use Rattle.files.specs.declared.refusal.Refusal.{Refusal}
use Rattle.files.specs.Format.{Format, run, got, refused}
use Rattle.files.specs.Refusals.{condition_number}

-- a number stands for itself
abbrev pub Same : ℕ → ℕ → Type 0
Same n a = n ≡ a

-- a reader that stood at `old` and stands at `new`, over the same bytes, has read a format: what it has stands for the value
-- that reading answers, and it is at the place after it; or it has the refusal that reading answers
pub record Reads {T A : Type 0} (stands : T → A → Type 0) (f : Format A) (old new : Reader) (r : Result T Refusal) : Type 0 where
  pub bytes : new.bytes ≡ old.bytes
  pub answer : MatchResult r
      (λ x. (a : A) × (run f old.at (drop old.at old.bytes.now) ≡ got a new.at) × stands x a)
      (λ e. run f old.at (drop old.at old.bytes.now) ≡ refused (condition_number e.condition) e.offset)
