-- No second answer, and no second buffer, meets the contract of a call over bytes.
use Prim.Native.Nat.{ℕ}
use mathlib.Core.Path.{◌≡◌, refl, ap, sym, ◌∙◌}
use mathlib.Core.List.{List}
use Rattle.files.specs.Reading.{Answer, read_answer}
use Rattle.files.specs.declared.rules.Rules.{Rules}
use Rattle.files.proofs.WritingJoins.{write_unique}
use Rattle.documents.proofs.CheckingJoins.{check_unique}
use Rattle.reasoning.proofs.ConsistencyJoins.{consistency_unique}
use Rattle.reasoning.proofs.QuestionJoins.{ask_unique}
use Rattle.entry.specs.Calls.{OverFile, NumbersOf, Writing, Rewrites, Checks, Decides, Asks}

-- what follows from two promises over one file follows from those of its refusal and from those of its rules
pub over_file : {file : List ℕ} {R S : ℕ → ℕ → Type 0} {P Q : Rules → Type 0} {Z : Type 0} → OverFile file R P → OverFile file S Q
    → ((k at : ℕ) → R k at → S k at → Z) → ((t : Rules) → P t → Q t → Z) → Z
over_file {file} {R} {S} {P} {Q} {Z} h g refused accepted = by (read_answer file).answer refl
  where
    by : (a : Answer) → (read_answer file).answer ≡ a → Z
    by (Answer.Refused k at) e = refused k at (h.refused k at e) (g.refused k at e)
    by Answer.Accepted e = accepted (read_answer file).rules (h.accepted e) (g.accepted e)

-- equal answers have equal numbers
pub numbers_unique : {A : Type 0} {numbers : A → List ℕ} {M N : A → Type 0} {answer other : List ℕ} {Z : Type 0} → NumbersOf numbers M answer
    → NumbersOf numbers N other → ((r q : A) → M r → N q → (r ≡ q) × Z) → (answer ≡ other) × Z
numbers_unique {numbers = numbers} h g same =
    let z = same h.given g.given h.meets g.meets in (h.are ∙ (ap numbers z.0 ∙ sym g.are), z.1)

-- a call that writes is fixed where the lower call is
module _ {A : Type 0} {numbers : A → List ℕ} {M N : Rules → A → Type 0} (out : List ℕ) {file answer other after beside : List ℕ} where
  pub writing_unique : Writing numbers M file out answer after → Writing numbers N file out other beside
      → ((t : Rules) (r q : A) → M t r → N t q → (r ≡ q) × (after ≡ beside)) → (answer ≡ other) × (after ≡ beside)
  writing_unique h g same =
      over_file h g (λ k at x y. (x.0 ∙ sym y.0, x.1 ∙ sym y.1)) (λ t x y. numbers_unique x y (same t))

pub rewrite_unique : (file out answer other after beside : List ℕ) → Rewrites file out answer after → Rewrites file out other beside
    → (answer ≡ other) × (after ≡ beside)
rewrite_unique file out answer other after beside h g = writing_unique out h g (λ t r q x y. write_unique t out r q after beside x y)

pub check_bytes_unique : (file document answer other : List ℕ) → Checks file document answer → Checks file document other → answer ≡ other
check_bytes_unique file document answer other h g =
    over_file h g (λ k at x y. x ∙ sym y)
    (λ t x y. (numbers_unique {Z = document ≡ document} x y (λ r q m n. (check_unique t document r q m n, refl))).0)

pub consistency_bytes_unique : (file out answer other after beside : List ℕ) → Decides file out answer after
    → Decides file out other beside → (answer ≡ other) × (after ≡ beside)
consistency_bytes_unique file out answer other after beside h g =
    writing_unique out h g (λ t r q x y. consistency_unique t out r q after beside x y)

pub ask_bytes_unique : (file : List ℕ) (kind left right : ℕ) (out answer other after beside : List ℕ)
    → Asks file kind left right out answer after → Asks file kind left right out other beside → (answer ≡ other) × (after ≡ beside)
ask_bytes_unique file kind left right out answer other after beside h g =
    writing_unique out h g (λ t r q x y. ask_unique t kind left right out r q after beside x y)
