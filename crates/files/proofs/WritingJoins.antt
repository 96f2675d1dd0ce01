-- What write_rules answers and leaves is what its contract says, and no second answer does.
use Prim.Native.Nat.{ℕ, ◌^◌, ◌<◌}
use mathlib.Core.Path.{◌≡◌, refl, sym, ap, ◌∙◌}
use mathlib.Core.Logic.{◌↔◌}
use mathlib.Core.Bool.{Bool, true, false, false≢true}
use mathlib.Core.List.{List, ◌++◌}
use native.Mathlib.Omega.{arith}
use lib.ListN.{length, drop}
use lib.Dec.{leb}
use borrow.Author.Tests.{leb-true, leb-false}
use Rattle.files.specs.declared.rules.Rules.{Rules}
use Rattle.std.specs.Prelude.{Result, Ok, Err}
use Rattle.files.specs.declared.refusal.Refusal.{Refusal}
use Rattle.files.specs.Refusals.{condition_number}
use Rattle.files.specs.RuleFile.{file_of}
use Rattle.files.specs.Rules.{rules_of, ValidTable}
use Rattle.files.specs.TableTest.{table_passes}
use Rattle.files.specs.Writing.{Written, Length, Refused, Put, put, write_answer, Puts, written_answer, WritesTable, invalid, short, written, WriteRules}
use Rattle.files.proofs.Conditions.{refusal_once}
use Rattle.files.proofs.TableTests.{passes_valid}

-- ---- what is so, is so once, and says when 12 and 20 are given

module _ (t : Rules) (out : List ℕ) where
  so_once : {r q : Written} {after other : List ℕ} → WritesTable t out r after → WritesTable t out q other → (r ≡ q) × (after ≡ other)
  so_once (invalid n) (invalid m) = (refl, refl)
  so_once (invalid n) (short v l) = absurd (n v)
  so_once (invalid n) (written v l) = absurd (n v)
  so_once (short v l) (invalid n) = absurd (n v)
  so_once (short v l) (short w m) = (refl, refl)
  so_once (short v l) (written w m) = absurd (omega arith)
  so_once (written v l) (invalid n) = absurd (n v)
  so_once (written v l) (short w m) = absurd (omega arith)
  so_once (written v l) (written w m) = (refl, refl)

  so_invalid : {r : Written} {after : List ℕ} → WritesTable t out r after → (r ≡ Refused 12 0) ↔ (¬ ValidTable t)
  so_invalid w = (by w, λ n. (so_once w (invalid n)).0)
    where
      by : {r : Written} {after : List ℕ} → WritesTable t out r after → r ≡ Refused 12 0 → ¬ ValidTable t
      by (invalid n) e = n
      by (short v l) e = absurd (let z : ◌≡◌ {A = ℕ} 20 12 = cc in omega arith)
      by (written v l) e = absurd (let z : ◌≡◌ {A = ℕ} 0 1 = cc in omega arith)

  so_short : {r : Written} {after : List ℕ} → WritesTable t out r after
      → (r ≡ Refused 20 0) ↔ (ValidTable t × (length out < length (file_of (rules_of t))))
  so_short w = (by w, λ h. (so_once w (short h.0 h.1)).0)
    where
      by : {r : Written} {after : List ℕ} → WritesTable t out r after → r ≡ Refused 20 0
          → ValidTable t × (length out < length (file_of (rules_of t)))
      by (invalid n) e = absurd (let z : ◌≡◌ {A = ℕ} 20 12 = cc in omega arith)
      by (short v l) e = (v, l)
      by (written v l) e = absurd (let z : ◌≡◌ {A = ℕ} 0 1 = cc in omega arith)

-- ---- the contract

module _ (t : Rules) (word : t.required < 2 ^ 64) (out : List ℕ) (r : Written) (after : List ℕ) (p : Puts (write_answer t out) r after) where
  file : List ℕ
  file = file_of (rules_of t)

  -- what is so of the answer is so of what was answered
  of_answer : (q : Put) → write_answer t out ≡ q → WritesTable t out q.answer q.buffer → WritesTable t out r after
  of_answer q e w =
      let a : r ≡ q.answer = p.answer ∙ ap (λ (x : Put). x.answer) e in
      let b : after ≡ q.buffer = p.buffer ∙ ap (λ (x : Put). x.buffer) e in
      rw (a, b) w

  is_so : (a : Bool) → table_passes t ≡ a → (b : Bool) → leb (length file) (length out) ≡ b → WritesTable t out r after
  unfolding write_answer put file
  is_so false e b f =
      of_answer (record { answer = Refused 12 0; buffer = out }) (rw e) (invalid (λ v. false≢true (sym e ∙ (passes_valid t word).1 v)))
  is_so true e true f =
      of_answer (record { answer = Length (length file); buffer = file ++ drop (length file) out }) (rw (e, f))
      (written ((passes_valid t word).0 e) (leb-true (length file) (length out) f))
  is_so true e false f =
      of_answer (record { answer = Refused 20 0; buffer = out }) (rw (e, f))
      (short ((passes_valid t word).0 e) (leb-false (length file) (length out) f))

  pub writes_rules : WriteRules t out r after
  writes_rules =
      let w = is_so (table_passes t) refl (leb (length file) (length out)) refl in
      record { puts = p; so = w; invalid = so_invalid t out w; short = so_short t out w }

-- no second answer, and no second buffer, meets the contract: what is said of each answer leaves one
pub write_unique : (t : Rules) (out : List ℕ) (r q : Written) (after other : List ℕ) → WriteRules t out r after → WriteRules t out q other
    → (r ≡ q) × (after ≡ other)
write_unique t out r q after other h k = so_once t out h.so k.so

-- a result is known by its answer
pub written_known : (r q : Result ℕ Refusal) → written_answer r ≡ written_answer q → r ≡ q
written_known (Ok n) (Ok m) e = let f : n ≡ m = cc in ap Ok f
written_known (Ok n) (Err q) e = absurd (let z : ◌≡◌ {A = ℕ} 0 1 = cc in omega arith)
written_known (Err r) (Ok m) e = absurd (let z : ◌≡◌ {A = ℕ} 0 1 = cc in omega arith)
written_known (Err r) (Err q) e =
    let a : condition_number r.condition ≡ condition_number q.condition = cc in
    let b : r.offset ≡ q.offset = cc in
    ap Err (refusal_once r q a b)
