-- A file of numbers: what number is wanted next, which refusal it meets, and what reading answers.
use Rattle.std.specs.Prelude.{ℕ, zero, suc, ◌+◌, ◌<◌, ◌≡◌, cond, List, [], ◌∷◌, ◌++◌, length, drop, ltb}
use Rattle.files.specs.Number.{Begun, Is, Refused, limit, bytes_of, bytes_of_all, number_in, Cut, TooLong}

-- a format: nothing more is wanted and a value stands; or a number is wanted, with its own test (0, or the number of the
-- refusal that it meets) and the format of what follows it
pub data Format (A : Type 0) : Type 0 where
  done : A → Format A
  want : (ℕ → ℕ) → (ℕ → Format A) → Format A

-- one format after another, which may depend on the value of the first
unfoldable pub and_then : {A B : Type 0} → Format A → (A → Format B) → Format B
and_then (done a) f = f a
and_then (want test next) f = want test (λ n. and_then (next n) f)

-- what reading answers: a value and the place after it, or a refusal's number and its offset
pub data Outcome (A : Type 0) : Type 0 where
  got : A → ℕ → Outcome A
  refused : ℕ → ℕ → Outcome A

-- a number tested: where its test says 0, what follows; else that refusal, at the number
unfoldable pub on_test : {A : Type 0} → ℕ → (ℕ → ℕ → Outcome A) → ℕ → ℕ → ℕ → Outcome A
on_test at follow n width zero = follow n width
on_test at follow n width (suc k) = refused (suc k) at

-- what stands where a number is wanted: a number is tested, anything else is its refusal
unfoldable pub on_number : {A : Type 0} → ℕ → (ℕ → ℕ) → (ℕ → ℕ → Outcome A) → Begun → Outcome A
on_number at test follow (Is n width) = on_test at follow n width (test n)
on_number at test follow (Refused k) = refused k at

-- reading the bytes `s`, which stand at place `at` of the file: each number is tested as soon as it is read
unfoldable pub run : {A : Type 0} → Format A → ℕ → List ℕ → Outcome A
run (done a) at s = got a at
run (want test next) at s = on_number at test (λ n width. run (next n) (at + width) (drop width s)) (number_in s)

-- nothing may stand after the last number (refusal 11 at the first leftover byte)
unfoldable pub at_end : {A : Type 0} → ℕ → Outcome A → Outcome A
at_end bytes (got a at) = cond (ltb at bytes) (refused 11 at) (got a at)
at_end bytes (refused k at) = refused k at

-- reading a whole file
unfoldable pub run_all : {A : Type 0} → Format A → List ℕ → Outcome A
run_all f s = at_end (length s) (run f 0 s)

-- the numbers, each passing its own test, lead from one format to another
pub data Leads {A : Type 0} : Format A → List ℕ → Format A → Type 0 where
  here : {f : Format A} → Leads f [] f
  take : {test : ℕ → ℕ} {next : ℕ → Format A} {n : ℕ} {ns : List ℕ} {f : Format A}
      → n < limit → test n ≡ 0 → Leads (next n) ns f → Leads (want test next) (n ∷ ns) f

-- why reading stops with refusal k where a format is wanted and the bytes `s` are left
pub data Stops {A : Type 0} : Format A → List ℕ → ℕ → Type 0 where
  cut : {test : ℕ → ℕ} {next : ℕ → Format A} {s : List ℕ} → Cut s → Stops (want test next) s 1
  long : {test : ℕ → ℕ} {next : ℕ → Format A} {s : List ℕ} → TooLong s → Stops (want test next) s 2
  own : {test : ℕ → ℕ} {next : ℕ → Format A} {n k : ℕ} {s : List ℕ} (rest : List ℕ)
      → n < limit → s ≡ bytes_of n ++ rest → test n ≡ suc k → Stops (want test next) s (suc k)
  left : {a : A} {b : ℕ} {s : List ℕ} → Stops (done a) (b ∷ s) 11

-- a file is accepted with a value: it is exactly the bytes of numbers that lead to it
pub record Accepted {A : Type 0} (f : Format A) (s : List ℕ) (a : A) : Type 0 where
  pub numbers : List ℕ
  pub leads : Leads f numbers (done a)
  pub bytes : s ≡ bytes_of_all numbers

-- a file is refused with number k at a place: numbers that pass their tests lead there, and there reading stops with k
pub record RefusedAt {A : Type 0} (f : Format A) (s : List ℕ) (k at : ℕ) : Type 0 where
  pub numbers : List ℕ
  pub rest : List ℕ
  pub wanted : Format A
  pub leads : Leads f numbers wanted
  pub bytes : s ≡ bytes_of_all numbers ++ rest
  pub place : at ≡ length (bytes_of_all numbers)
  pub stops : Stops wanted rest k
