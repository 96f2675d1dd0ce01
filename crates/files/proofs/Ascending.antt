-- Laws of a loop that reads ascending numbers.
use Prim.Native.Nat.{ℕ, suc, ◌+◌, ◌-◌, ◌<◌, ◌≤◌}
use mathlib.Core.Path.{◌≡◌, refl, sym, ap, ◌∙◌}
use mathlib.Core.List.{List, [], ◌∷◌, ◌++◌}
use native.Mathlib.Omega.{arith}
use lib.ListN.{drop}
use Rattle.std.specs.Prelude.{Ok, Err}
use Rattle.files.specs.declared.reader.Reader.{Reader}
use Rattle.files.specs.declared.refusal.Refusal.{Refusal}
use Rattle.files.specs.Format.{Format, done, want, and_then, Outcome, run}
use Rattle.files.specs.Readers.{Same, Reads}
use Rattle.files.specs.RuleFile.{between, more_ascending}
use Rattle.files.proofs.Formats.{onward, run_then}

-- i of so many are read, as xs, the last of them `last`, and reading goes on where the reader stands
pub record AscendingSoFar (old now : Reader) (refusal past many from i last : ℕ) (xs : List ℕ) : Type 0 where
  pub bytes : now.bytes ≡ old.bytes
  pub rest : run (more_ascending refusal past (many - i) last xs) now.at (drop now.at old.bytes.now)
      ≡ run (more_ascending refusal past many from []) old.at (drop old.at old.bytes.now)

pub ascending_start : (old : Reader) (refusal past many from : ℕ) → AscendingSoFar old old refusal past many from 0 from []
ascending_start old refusal past many from =
    record { bytes = refl; rest = (let e : many - 0 ≡ many = omega arith in ap (λ (k : ℕ). run (more_ascending refusal past k from []) old.at (drop old.at old.bytes.now)) e) }

module _ (old now : Reader) (refusal past many from i last : ℕ) (xs : List ℕ) (inv : AscendingSoFar old now refusal past many from i last xs) where
  on : ℕ → Format (List ℕ)
  on x = more_ascending refusal past (many - (i + 1)) x (xs ++ (x ∷ []))

  -- while some are left, what remains is one and what remains after it
  one_more : i < many → run (more_ascending refusal past many from []) old.at (drop old.at old.bytes.now)
      ≡ onward on old.bytes.now (run (want (between (last + 1) past refusal) (λ (n : ℕ). done n)) now.at (drop now.at old.bytes.now))
  unfolding more_ascending and_then on
  one_more h =
      let e : many - i ≡ suc (many - (i + 1)) = omega arith in
      sym inv.rest
      ∙ ap (λ (k : ℕ). run (more_ascending refusal past k last xs) now.at (drop now.at old.bytes.now)) e
      ∙ run_then (want (between (last + 1) past refusal) (λ (n : ℕ). done n)) (λ x. more_ascending refusal past (many - (i + 1)) x (xs ++ (x ∷ []))) old.bytes.now now.at

  module _ (h : i < many) (new : Reader) where
    here : {o : Outcome ℕ} → run (want (between (last + 1) past refusal) (λ (n : ℕ). done n)) now.at (drop now.at now.bytes.now) ≡ o
        → run (want (between (last + 1) past refusal) (λ (n : ℕ). done n)) now.at (drop now.at old.bytes.now) ≡ o
    here e = ap (λ (s : List ℕ). run (want (between (last + 1) past refusal) (λ (n : ℕ). done n)) now.at (drop now.at s)) (sym (ap (λ b. b.now) inv.bytes)) ∙ e

    pub ascending_out : {T : Type 0} (holds : T → List ℕ → Type 0) (e : Refusal) → Reads Same (want (between (last + 1) past refusal) (λ (n : ℕ). done n)) now new (Err e)
        → Reads holds (more_ascending refusal past many from []) old new (Err e)
    unfolding onward
    ascending_out holds e r = record { bytes = r.bytes ∙ inv.bytes; answer = one_more h ∙ ap (onward on old.bytes.now) (here r.answer) }

    pub ascending_next : (x : ℕ) → Reads Same (want (between (last + 1) past refusal) (λ (n : ℕ). done n)) now new (Ok x)
        → AscendingSoFar old new refusal past many from (i + 1) x (xs ++ (x ∷ []))
    unfolding onward on
    ascending_next x r =
        record {
          bytes = r.bytes ∙ inv.bytes;
          rest =
              ap (λ (k : ℕ). run (more_ascending refusal past (many - (i + 1)) k (xs ++ (k ∷ []))) new.at (drop new.at old.bytes.now)) r.answer.2
              ∙ sym (one_more h ∙ ap (onward on old.bytes.now) (here r.answer.1));
        }

  pub ascending_end : {T : Type 0} (holds : T → List ℕ → Type 0) (v : T) → many ≤ i → holds v xs → Reads holds (more_ascending refusal past many from []) old now (Ok v)
  unfolding run more_ascending
  ascending_end holds v h k =
      let e : many - i ≡ 0 = omega arith in
      record {
        bytes = inv.bytes;
        answer = (xs, sym inv.rest ∙ ap (λ (k : ℕ). run (more_ascending refusal past k last xs) now.at (drop now.at old.bytes.now)) e, k);
      }
