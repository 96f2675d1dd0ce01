-- A walk that comes back to a path can be cut shorter; so the shortest walk over `count` paths has fewer than `count` steps.
use Prim.Native.Nat.{ℕ, zero, suc, ◌+◌, ◌-◌, ◌≤◌, ◌<◌}
use mathlib.Core.Path.{◌≡◌, refl, sym, subst}
use mathlib.Core.Logic.{◌⊎◌, inl, inr}
use mathlib.Core.List.{List, [], ◌∷◌}
use native.Mathlib.Omega.{arith}
use native.Mathlib.Nat.{add-zero}
use native.Mathlib.Decide.{dec_le}
use lib.ListN.{length}
use Rattle.files.specs.Table.{Rule}
use Rattle.files.specs.Sets.{bit, Has, with_path, size_below, size}
use Rattle.files.proofs.SetBits.{has_with, not_has, bit_of_zero, bit_absent}
use Rattle.files.proofs.SetMembers.{size_with, size_of_zero, size_below_le, size_below_suc, size_below_all}
use Rattle.documents.specs.Paths.{Below}
use Rattle.theory.specs.Walk.{Walk, stay, step}
use Rattle.theory.specs.Written.{Before, shorter, Written}
use Rattle.theory.specs.Reachable.{Fits}
use Rattle.theory.proofs.Reachable.{step_in_table}

-- no walk between the same paths inside c has fewer steps
pub record Shortest (parent : ℕ → ℕ) (rules : List Rule) (c x : ℕ) (n y : ℕ) : Type 0 where
  pub none_shorter : (others : List ℕ) → Walk parent rules c x others y → n ≤ length others

-- a written walk has the fewest steps
pub written_shortest : {parent : ℕ → ℕ} {rules : List Rule} {c x y : ℕ} {codes : List ℕ} → Written parent rules c x codes y
    → Shortest parent rules c x (length codes) y
written_shortest {codes = codes} w = record {
  none_shorter = λ others v. pick (dec_le (length codes) (length others)) (w.least others v);
}
  where
    pick : {others : List ℕ} → Dec (length codes ≤ length others) → (Before others codes → ⊥) → length codes ≤ length others
    pick (yes h) never = h
    pick (no n) never = absurd (never (shorter (omega arith)))

-- a set whose paths are all below n has at most n
size_under : (w n : ℕ) → n ≤ 64 → ((x : ℕ) → Has w x → x < n) → size w ≤ n
size_under w n l h =
    let all : n + (64 - n) ≡ 64 = omega arith in
    let under : size_below w 64 ≤ n = rw all at (upto (64 - n) (omega arith)) in
    omega (arith, size_below_all w)
  where
    upto : (k : ℕ) → n + k ≤ 64 → size_below w (n + k) ≤ n
    upto zero m = rw add-zero (size_below_le w n)
    upto (suc k) m =
        let e : n + suc k ≡ suc (n + k) = omega arith in
        let past : bit w (n + k) ≡ 0 = bit_absent w (n + k) (λ p. let q : n + k < n = h (n + k) p in omega arith) in
        rw e (omega (arith, upto k (omega arith), size_below_suc w (n + k)))

-- the set of the paths that a walk of n steps to y visits: from each of them a walk of at most n steps leads to y
record Visits (parent : ℕ → ℕ) (rules : List Rule) (c count n y s : ℕ) : Type 0 where
  many : size s ≡ suc n
  under : (z : ℕ) → Has s z → z < count
  near : (z : ℕ) → Has s z → (codes : List ℕ) × Walk parent rules c z codes y × (length codes ≤ n)

module _ {parent : ℕ → ℕ} {rules : List Rule} {count : ℕ} (fits : Fits parent rules count) where
  single : {c y : ℕ} → y < count → Below parent c y → Visits parent rules c count 0 y (with_path 0 y)
  single {c} {y} h b = record {
    many = omega (arith, size_with 0 y low (bit_of_zero y), size_of_zero);
    under = λ z k. under_at z ((has_with 0 y z low).0 k);
    near = λ z k. near_at z ((has_with 0 y z low).0 k);
  }
    where
      low : y < 64
      low = omega (arith, fits.few)

      under_at : (z : ℕ) → (z ≡ y) ⊎ Has 0 z → z < count
      under_at z (inl e) = omega arith
      under_at z (inr k) = absurd (not_has (bit_of_zero z) k)

      near_at : (z : ℕ) → (z ≡ y) ⊎ Has 0 z → (codes : List ℕ) × Walk parent rules c z codes y × (length codes ≤ 0)
      near_at z (inl e) = ([], subst (λ (v : ℕ). Walk parent rules c v [] y) (sym e) (stay b), omega arith)
      near_at z (inr k) = absurd (not_has (bit_of_zero z) k)

  one_more : {c x y s : ℕ} {codes : List ℕ} → x < count → Walk parent rules c x codes y → Shortest parent rules c x (length codes) y
      → {n : ℕ} → length codes ≡ suc n → Visits parent rules c count n y s → Visits parent rules c count (suc n) y (with_path s x)
  one_more {c} {x} {y} {s} {codes} h w short {n} e v = record {
    many = omega (arith, size_with s x low (bit_absent s x fresh), v.many);
    under = λ z k. under_at z ((has_with s x z low).0 k);
    near = λ z k. near_at z ((has_with s x z low).0 k);
  }
    where
      low : x < 64
      low = omega (arith, fits.few)

      fresh : Has s x → ⊥
      fresh k = let a = v.near x k in omega (arith, short.none_shorter a.0 a.1, a.2)

      under_at : (z : ℕ) → (z ≡ x) ⊎ Has s z → z < count
      under_at z (inl p) = omega arith
      under_at z (inr k) = v.under z k

      near_at : (z : ℕ) → (z ≡ x) ⊎ Has s z → (codes : List ℕ) × Walk parent rules c z codes y × (length codes ≤ suc n)
      near_at z (inl p) = (codes, subst (λ (a : ℕ). Walk parent rules c a codes y) (sym p) w, omega arith)
      near_at z (inr k) = let a = v.near z k in (a.0, a.1, omega (arith, a.2))

  visits : {c x y : ℕ} {codes : List ℕ} → x < count → Walk parent rules c x codes y → Shortest parent rules c x (length codes) y
      → (s : ℕ) × Visits parent rules c count (length codes) y s
  visits {x = x} h (stay b) short = (with_path 0 x, single h b)
  visits {c} {x} {y} h (step {y = z} {code = code} {codes = codes} b st w) short =
      let rest = visits (step_in_table fits h st) w
      (record { none_shorter = λ others v. let l = short.none_shorter (code ∷ others) (step b st v) in omega arith }) in
      (with_path rest.0 x, one_more h (step b st w) short refl rest.1)

  -- the shortest walk has fewer steps than the table has paths
  pub shortest_bound : {c x y : ℕ} {codes : List ℕ} → x < count → Walk parent rules c x codes y
      → Shortest parent rules c x (length codes) y → length codes < count
  shortest_bound h w short =
      let v = visits h w short in omega (arith, size_under v.0 count fits.few v.1.under, v.1.many)

  -- a written walk has at most 63 steps
  pub written_bound : {c x y : ℕ} {codes : List ℕ} → x < count → Written parent rules c x codes y → length codes ≤ 63
  written_bound h w = omega (arith, shortest_bound h w.walk (written_shortest w), fits.few)
