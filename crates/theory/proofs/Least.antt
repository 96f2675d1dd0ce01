-- The laws of the least number that passes a test, and of the set of those that pass.
use Prim.Native.Nat.{ℕ, zero, suc, ◌+◌, ◌^◌, ◌≤◌, ◌<◌}
use mathlib.Core.Path.{◌≡◌, refl}
use mathlib.Core.Logic.{◌⊎◌, inl, inr, ◌↔◌}
use mathlib.Core.Bool.{Bool, true, false}
use native.Mathlib.Omega.{arith}
use native.Mathlib.Nat.{eq-zero-or-pos}
use native.Mathlib.Decide.{dec_lt, ℕ_discrete}
use lib.Dec.{T, eqb, ltb, eqb→eq, not_T, lt→ltb, lit<}
use Rattle.files.specs.Sets.{Has, lowest}
use Rattle.files.proofs.SetBits.{has_with, with_lt, not_has, bit_of_zero}
use Rattle.files.proofs.SetLowest.{has_lowest}
use Rattle.theory.specs.Least.{first_from, least, passing, some_in}

module _ (test : ℕ → Bool) where
  -- the first number, at or after `at`, that passes; past the last it is one that need not
  record First (left at k : ℕ) : Type 0 where
    from : at ≤ k
    upto : k ≤ at + left
    passes : k < at + left → T (test k)
    before : (j : ℕ) → at ≤ j → j < k → T (test j) → ⊥

  first_law : (left at : ℕ) → First left at (first_from test left at)
  unfolding first_from
  first_law zero at = record {
    from = omega arith;
    upto = omega arith;
    passes = λ h. absurd (omega arith);
    before = λ j h k t. absurd (omega arith);
  }
  first_law (suc left) at = pick (test at) refl (first_law left (suc at))
    where
      pick : (b : Bool) → test at ≡ b → First left (suc at) (first_from test left (suc at))
          → First (suc left) at (first_from test (suc left) at)
      pick true e again =
          rw (first_from, e) (record {
            from = omega arith;
            upto = omega arith;
            passes = λ h. rw e tt;
            before = λ j h k t. absurd (omega arith);
          })
      pick false e again =
          rw (first_from, e) (record {
            from = omega (arith, again.from);
            upto = omega (arith, again.upto);
            passes = λ h. again.passes (omega arith);
            before = λ j h k t. earlier j h k t (ℕ_discrete at j);
          })
        where
          earlier : (j : ℕ) → at ≤ j → j < first_from test left (suc at) → T (test j) → Dec (at ≡ j) → ⊥
          earlier j h k t (yes p) = rw (← p, e) at t
          earlier j h k t (no n) = again.before j (omega arith) k t

  -- below n it passes
  pub least_passes : (n : ℕ) → least test n < n → T (test (least test n))
  unfolding least
  least_passes n h = (first_law n 0).passes (omega arith)

  -- whatever passes is no less
  pub least_least : (n k : ℕ) → T (test k) → least test n ≤ k
  unfolding least
  least_least n k t = pick (dec_lt k (first_from test n 0))
    where
      pick : Dec (k < first_from test n 0) → first_from test n 0 ≤ k
      pick (yes h) = absurd ((first_law n 0).before k (omega arith) h t)
      pick (no h) = omega arith

  -- some number below n passes exactly if the least is below n
  pub least_some : (n k : ℕ) → k < n → T (test k) → T (ltb (least test n) n)
  least_some n k h t = lt→ltb (least test n) n (omega (arith, least_least n k t))

  -- the set of the paths below n that pass
  pub passing_iff : (n x : ℕ) → n ≤ 64 → Has (passing test n) x ↔ ((x < n) × T (test x))
  unfolding passing
  passing_iff zero x l = (λ h. absurd (not_has (bit_of_zero x) h), λ h. absurd (omega (arith, h.0)))
  passing_iff (suc n) x l = pick (test n) refl (passing_iff n x (omega arith))
    where
      pick : (b : Bool) → test n ≡ b → Has (passing test n) x ↔ ((x < n) × T (test x))
          → Has (passing test (suc n)) x ↔ ((x < suc n) × T (test x))
      pick true e again = rw (passing, e) (
        λ h. out ((has_with (passing test n) n x (omega arith)).0 h),
        λ h. (has_with (passing test n) n x (omega arith)).1 (into h (ℕ_discrete x n)),
      )
        where
          out : (x ≡ n) ⊎ Has (passing test n) x → (x < suc n) × T (test x)
          out (inl p) = (omega arith, rw (p, e) tt)
          out (inr h) = (omega (arith, (again.0 h).0), (again.0 h).1)

          into : (x < suc n) × T (test x) → Dec (x ≡ n) → (x ≡ n) ⊎ Has (passing test n) x
          into h (yes p) = inl p
          into h (no d) = inr (again.1 (omega (arith, h.0), h.1))
      pick false e again = rw (passing, e) (λ h. (omega (arith, (again.0 h).0), (again.0 h).1), λ h. into h (ℕ_discrete x n))
        where
          into : (x < suc n) × T (test x) → Dec (x ≡ n) → Has (passing test n) x
          into h (yes p) = absurd (rw (p, e) at h.1)
          into h (no d) = again.1 (omega (arith, h.0), h.1)

  -- it is a word of 64 bits
  pub passing_small : (n : ℕ) → passing test n < 2 ^ 64
  unfolding passing
  passing_small zero = lit< tt
  passing_small (suc n) = pick (test n) refl (passing_small n)
    where
      pick : (b : Bool) → test n ≡ b → passing test n < 2 ^ 64 → passing test (suc n) < 2 ^ 64
      pick true e again = rw (passing, e) (with_lt (passing test n) n again)
      pick false e again = rw (passing, e) again

-- a set that has a path has a least one
pub some_lowest : (w : ℕ) → w < 2 ^ 64 → T (some_in w) → Has w (lowest w)
unfolding some_in
some_lowest w h t = has_lowest w (pick (eq-zero-or-pos w)) h
  where
    pick : (w ≡ 0) ⊎ (0 < w) → 0 < w
    pick (inl e) = absurd (rw e at t)
    pick (inr l) = l

-- a set with a path has one
pub has_some : (w i : ℕ) → Has w i → T (some_in w)
unfolding some_in
has_some w i h = not_T (eqb w 0) (λ t. not_has (bit_of_zero i) (rw (eqb→eq w 0 t) at h))
