-- No two conditions have one number, so a refusal is known by its number and its offset.
use Rattle.std.specs.Prelude.{ℕ, suc, true, false, cond, eqb, Result, Ok, Err}
use Rattle.std.specs.Result.{is_err}
use mathlib.Core.Bool.{false≢true}
use Rattle.std.proofs.Common.{arith, ◌≡◌, refl, sym, ap, ap₂, ◌∙◌}
use Rattle.files.specs.declared.refusal.Condition.{Condition}
use Rattle.files.specs.declared.refusal.Refusal.{Refusal}
use Rattle.files.specs.Refusals.{condition_number, test_number}

-- the condition that a number has
condition_of : ℕ → Condition
condition_of n =
    cond (eqb n 1) Condition.Cut (cond (eqb n 2) Condition.TooLong (cond (eqb n 3) Condition.PathCount (cond (eqb n 4) Condition.Parent (cond (eqb n 5) Condition.Depth (cond (eqb n 6) Condition.Repeated (cond (eqb n 7) Condition.Required (cond (eqb n 8) Condition.RuleCount (cond (eqb n 9) Condition.RuleKind (cond (eqb n 10) Condition.RulePath (cond (eqb n 11) Condition.LeftOver (cond (eqb n 12) Condition.Table (cond (eqb n 13) Condition.Question (cond (eqb n 14) Condition.DocumentSize (cond (eqb n 15) Condition.PartCount (cond (eqb n 16) Condition.PartPath (cond (eqb n 17) Condition.Unnamed (cond (eqb n 18) Condition.NamerPath (cond (eqb n 19) Condition.ChildNumber Condition.Room))))))))))))))))))

of_number : (c : Condition) → condition_of (condition_number c) ≡ c
unfolding condition_of
of_number Condition.Cut = refl
of_number Condition.TooLong = refl
of_number Condition.PathCount = refl
of_number Condition.Parent = refl
of_number Condition.Depth = refl
of_number Condition.Repeated = refl
of_number Condition.Required = refl
of_number Condition.RuleCount = refl
of_number Condition.RuleKind = refl
of_number Condition.RulePath = refl
of_number Condition.LeftOver = refl
of_number Condition.Table = refl
of_number Condition.Question = refl
of_number Condition.DocumentSize = refl
of_number Condition.PartCount = refl
of_number Condition.PartPath = refl
of_number Condition.Unnamed = refl
of_number Condition.NamerPath = refl
of_number Condition.ChildNumber = refl
of_number Condition.Room = refl

pub number_once : (c d : Condition) → condition_number c ≡ condition_number d → c ≡ d
number_once c d e = sym (of_number c) ∙ ap condition_of e ∙ of_number d

pub refusal_once : (r q : Refusal) → condition_number r.condition ≡ condition_number q.condition → r.offset ≡ q.offset → r ≡ q
refusal_once r q e f = ap₂ (λ (c : Condition) (at : ℕ). record { condition = c; offset = at }) (number_once r.condition q.condition e) f

-- no condition has the number 0, which says that a test passes
pub number_some : (c : Condition) → (j : ℕ) × (condition_number c ≡ suc j)
number_some Condition.Cut = (0, refl)
number_some Condition.TooLong = (1, refl)
number_some Condition.PathCount = (2, refl)
number_some Condition.Parent = (3, refl)
number_some Condition.Depth = (4, refl)
number_some Condition.Repeated = (5, refl)
number_some Condition.Required = (6, refl)
number_some Condition.RuleCount = (7, refl)
number_some Condition.RuleKind = (8, refl)
number_some Condition.RulePath = (9, refl)
number_some Condition.LeftOver = (10, refl)
number_some Condition.Table = (11, refl)
number_some Condition.Question = (12, refl)
number_some Condition.DocumentSize = (13, refl)
number_some Condition.PartCount = (14, refl)
number_some Condition.PartPath = (15, refl)
number_some Condition.Unnamed = (16, refl)
number_some Condition.NamerPath = (17, refl)
number_some Condition.ChildNumber = (18, refl)
number_some Condition.Room = (19, refl)

-- a test passes exactly if it says 0
pub test_fails : (r : Result Unit Condition) → is_err r ≡ true → test_number r ≡ 0 → ⊥
test_fails (Ok u) e z = absurd (false≢true e)
test_fails (Err c) e z = let some : (j : ℕ) × (condition_number c ≡ suc j) = number_some c in omega (arith, z, some.1)

pub test_passes : (r : Result Unit Condition) → is_err r ≡ false → test_number r ≡ 0
test_passes (Ok u) e = refl
test_passes (Err c) e = absurd (false≢true (sym e))

pub ruleset test_laws = (test_fails, test_passes)
