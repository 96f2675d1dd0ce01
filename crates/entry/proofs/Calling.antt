-- From what reading a file answered to what a call over its bytes promises.
use Prim.Native.Nat.{ℕ}
use mathlib.Core.Path.{◌≡◌, subst, ap, sym, ◌∙◌}
use mathlib.Core.List.{List}
use native.Mathlib.Omega.{arith}
use Rattle.files.specs.Reading.{Answer, Reading, read_answer, ReadRules}
use Rattle.files.specs.declared.rules.Rules.{Rules}
use Rattle.entry.specs.Calls.{OverFile, NumbersOf}

module _ (file : List ℕ) (r : Reading) (h : ReadRules file r) (OfRefused : ℕ → ℕ → Type 0) (OfRules : Rules → Type 0) where
  promised : ReadRules file (read_answer file)
  promised = subst (λ (q : Reading). ReadRules file q) h.answer h

  was : r.answer ≡ (read_answer file).answer
  was = ap (λ (q : Reading). q.answer) h.answer

  -- the file was refused
  pub file_refused : {k at : ℕ} → r.answer ≡ Answer.Refused k at → OfRefused k at → OverFile file OfRefused OfRules
  file_refused {k} {at} e f =
      record {
        reading = promised;
        refused = λ n o g.
            let d : Answer.Refused k at ≡ Answer.Refused n o = sym e ∙ (was ∙ g) in
            let p : k ≡ n = cc in
            let q : at ≡ o = cc in
            subst (λ (z : ℕ). OfRefused z o) p (subst (λ (z : ℕ). OfRefused k z) q f);
        accepted = λ g.
            let d : Answer.Refused k at ≡ Answer.Accepted = sym e ∙ (was ∙ g) in
            absurd (let z : ◌≡◌ {A = ℕ} 0 1 = cc in omega arith);
      }

  -- the file was accepted
  pub file_accepted : r.answer ≡ Answer.Accepted → OfRules r.rules → OverFile file OfRefused OfRules
  file_accepted e f =
      record {
        reading = promised;
        refused = λ n o g.
            let d : Answer.Accepted ≡ Answer.Refused n o = sym e ∙ (was ∙ g) in
            absurd (let z : ◌≡◌ {A = ℕ} 0 1 = cc in omega arith);
        accepted = λ g. subst (λ (q : Reading). OfRules q.rules) h.answer f;
      }

-- the numbers that the code lays are those of the lower call's answer
pub laid : {A : Type 0} {numbers : A → List ℕ} {Meets : A → Type 0} {answer : List ℕ} (a : A) → answer ≡ numbers a → Meets a
    → NumbersOf numbers Meets answer
laid a e m = record { given = a; are = e; meets = m }
