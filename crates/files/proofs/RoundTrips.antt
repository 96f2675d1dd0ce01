-- Between the contracts of reading and writing: what was written is read as the same rules, what was read is written as the same bytes.
use Prim.Native.Nat.{ℕ, ◌<◌, ◌≤◌}
use mathlib.Core.Path.{◌≡◌, refl, sym, ap, ◌∙◌}
use mathlib.Core.List.{List, ◌++◌}
use native.Mathlib.Omega.{arith}
use lib.ListN.{length, take, drop}
use lib.Seq.{take-append_seam}
use Rattle.files.specs.declared.rules.Rules.{Rules}
use Rattle.files.specs.Reading.{Accepted, Reading, ReadRules}
use Rattle.files.specs.RuleFile.{file_of}
use Rattle.files.specs.Rules.{rules_of, table_of, ValidTable}
use Rattle.files.specs.Writing.{Written, Length, Refused, WritesTable, invalid, short, written, WriteRules}
use Rattle.files.proofs.TableStructs.{rules_of_table}

-- ---- writing, then reading

-- what stands at the start of the buffer is the file of a valid table
wrote_file : {t : Rules} {out after : List ℕ} {r : Written} (n : ℕ) → WritesTable t out r after → r ≡ Length n
    → ValidTable t × (take n after ≡ file_of (rules_of t))
wrote_file n (invalid x) e = absurd (let z : ◌≡◌ {A = ℕ} 0 1 = cc in omega arith)
wrote_file n (short v l) e = absurd (let z : ◌≡◌ {A = ℕ} 0 1 = cc in omega arith)
wrote_file {t} {out} n (written v l) e =
    let file : List ℕ = file_of (rules_of t) in
    let same : length file ≡ n = cc in
    (v, ap (λ (k : ℕ). take k (file ++ drop (length file) out)) (sym same) ∙ take-append_seam file (drop (length file) out))

-- what was written is accepted, and stands for the same rules; the slots that the table written did not use are 0
pub written_then_read : (t : Rules) (out after : List ℕ) (n : ℕ) (r : Reading) → WriteRules t out (Length n) after → ReadRules (take n after) r
    → (r.answer ≡ Accepted) × (rules_of r.rules ≡ rules_of t) × (r.rules ≡ table_of (rules_of t))
written_then_read t out after n r w h =
    let f = wrote_file n w.so refl in
    let e : r ≡ record { answer = Accepted; rules = table_of (rules_of t) } = h.accepts (rules_of t) f.0.valid f.1 in
    let table : r.rules ≡ table_of (rules_of t) = ap (λ (x : Reading). x.rules) e in
    (ap (λ (x : Reading). x.answer) e, ap rules_of table ∙ rules_of_table (rules_of t) f.0.valid, table)

-- ---- reading, then writing

module _ (s : List ℕ) (r : Reading) (h : ReadRules s r) (e : r.answer ≡ Accepted) (out after : List ℕ) (w : Written)
    (c : WriteRules r.rules out w after) where
  file_is : file_of (rules_of r.rules) ≡ s
  file_is =
      let a = h.accepted e in
      ap (λ (t : Rules). file_of (rules_of t)) a.table ∙ ap file_of (rules_of_table a.rules a.valid) ∙ sym a.file

  -- an accepted file is written again as it was read, and later bytes are unchanged
  pub read_then_written : length s ≤ length out → (w ≡ Length (length s)) × (after ≡ s ++ drop (length s) out)
  read_then_written f = by c.so
    where
      by : {q : Written} {b : List ℕ} → WritesTable r.rules out q b → (q ≡ Length (length s)) × (b ≡ s ++ drop (length s) out)
      by (invalid n) = absurd (n h.valid)
      by (short v l) = absurd (omega (arith, ap length file_is))
      by (written v l) = (ap (λ (x : List ℕ). Length (length x)) file_is, ap (λ (x : List ℕ). x ++ drop (length x) out) file_is)

  -- where the buffer is shorter than the file, the refusal is 20
  pub read_then_short : length out < length s → (w ≡ Refused 20 0) × (after ≡ out)
  read_then_short f = by c.so
    where
      by : {q : Written} {b : List ℕ} → WritesTable r.rules out q b → (q ≡ Refused 20 0) × (b ≡ out)
      by (invalid n) = absurd (n h.valid)
      by (short v l) = (refl, refl)
      by (written v l) = absurd (omega (arith, ap length file_is))

-- what was read is never refused with 12: not even the table of a refused file
pub read_never_12 : (s : List ℕ) (r : Reading) (out after : List ℕ) (w : Written) → ReadRules s r → WriteRules r.rules out w after
    → w ≡ Refused 12 0 → ⊥
read_never_12 s r out after w h c e = c.invalid.0 e h.valid
