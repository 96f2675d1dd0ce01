-- Gathering over the members of a set, a member at a time, as the loop runs it.
use Prim.Native.Nat.{ℕ, zero, suc, ◌^◌, ◌≤◌, ◌<◌}
use mathlib.Core.Path.{◌≡◌, refl, sym, ◌∙◌}
use mathlib.Core.Bool.{Bool, true, false}
use native.Mathlib.Decide.{ℕ_discrete}
use native.Mathlib.Omega.{arith}
use lib.Dec.{eqb}
use borrow.Author.Tests.{eqb-true}
use Rattle.files.specs.Sets.{union, lowest, without_lowest, size}
use Rattle.files.proofs.SetLowest.{without_lowest_lt}
use Rattle.files.proofs.SetMembers.{size_le, size_without_lowest}
use Rattle.theory.specs.Handed.{gather}

module _ (f : ℕ → ℕ) where
  -- no member is left
  pub gather_end : (fuel s : ℕ) → gather f fuel 0 s ≡ s
  unfolding gather
  gather_end zero s = refl
  gather_end (suc fuel) s = refl

  gather_more : (fuel w s : ℕ) → 0 < w → gather f (suc fuel) w s ≡ gather f fuel (without_lowest w) (union s (f (lowest w)))
  unfolding gather
  gather_more fuel w s p = pick (eqb w 0) refl
    where
      pick : (b : Bool) → eqb w 0 ≡ b → gather f (suc fuel) w s ≡ gather f fuel (without_lowest w) (union s (f (lowest w)))
      pick true e = absurd (omega (arith, eqb-true w 0 e))
      pick false e = rw (gather, e)

  -- fuel for each member is enough
  gather_fuel : (fuel more w s : ℕ) → w < 2 ^ 64 → size w ≤ fuel → size w ≤ more → gather f fuel w s ≡ gather f more w s
  gather_fuel zero more w s l h k = pick (ℕ_discrete w 0)
    where
      pick : Dec (w ≡ 0) → gather f zero w s ≡ gather f more w s
      pick (yes e) = rw e (gather_end zero s ∙ sym (gather_end more s))
      pick (no n) = absurd (omega (arith, size_without_lowest w (omega arith) l))
  gather_fuel (suc fuel) zero w s l h k = pick (ℕ_discrete w 0)
    where
      pick : Dec (w ≡ 0) → gather f (suc fuel) w s ≡ gather f zero w s
      pick (yes e) = rw e (gather_end (suc fuel) s ∙ sym (gather_end zero s))
      pick (no n) = absurd (omega (arith, size_without_lowest w (omega arith) l))
  gather_fuel (suc fuel) (suc more) w s l h k =
      pick (ℕ_discrete w 0) (gather_fuel fuel more (without_lowest w) (union s (f (lowest w))) (without_lowest_lt w l))
    where
      pick : Dec (w ≡ 0)
          → (size (without_lowest w) ≤ fuel → size (without_lowest w) ≤ more
          → gather f fuel (without_lowest w) (union s (f (lowest w))) ≡ gather f more (without_lowest w) (union s (f (lowest w))))
          → gather f (suc fuel) w s ≡ gather f (suc more) w s
      pick (yes e) again = rw e (gather_end (suc fuel) s ∙ sym (gather_end (suc more) s))
      pick (no n) again =
          let p : 0 < w = omega arith in
          let q = size_without_lowest w p l in
          gather_more fuel w s p ∙ again (omega (arith, q)) (omega (arith, q)) ∙ sym (gather_more more w s p)

  -- the lowest member joins what it gives, and goes
  pub gather_step : (w s : ℕ) → 0 < w → w < 2 ^ 64 → gather f 64 w s ≡ gather f 64 (without_lowest w) (union s (f (lowest w)))
  gather_step w s p l =
      gather_more 63 w s p
      ∙ gather_fuel 63 64 (without_lowest w) (union s (f (lowest w))) (without_lowest_lt w l)
      (omega (arith, size_without_lowest w p l, size_le w)) (size_le (without_lowest w))
