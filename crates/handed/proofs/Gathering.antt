-- Gathering what a function gives for the members of a set is joining it for each of them.
use Prim.Native.Nat.{ℕ, zero, suc, ◌^◌, ◌≤◌, ◌<◌}
use mathlib.Core.Path.{◌≡◌, sym, ap, ◌∙◌}
use mathlib.Core.List.{List}
use native.Mathlib.Decide.{ℕ_discrete}
use native.Mathlib.Omega.{arith}
use Rattle.files.specs.Sets.{lowest, without_lowest, union, size, members, join_words}
use Rattle.files.proofs.SetLowest.{without_lowest_lt}
use Rattle.files.proofs.SetMembers.{size_le, size_without_lowest, members_take, members_of_zero}
use Rattle.theory.specs.Handed.{gather}
use Rattle.theory.proofs.HandedGather.{gather_end, gather_step}

module _ (f : ℕ → ℕ) where
  joined_none : (w s : ℕ) → w ≡ 0 → join_words f (members w) s ≡ gather f 64 w s
  unfolding join_words
  joined_none w s e =
      ap (λ (z : ℕ). join_words f (members z) s) e
      ∙ ap (λ (l : List ℕ). join_words f l s) members_of_zero
      ∙ sym (ap (λ (z : ℕ). gather f 64 z s) e ∙ gather_end f 64 s)

  joined_by : (n w s : ℕ) → w < 2 ^ 64 → size w ≤ n → join_words f (members w) s ≡ gather f 64 w s
  unfolding join_words
  joined_by zero w s l h = pick (ℕ_discrete w 0)
    where
      pick : Dec (w ≡ 0) → join_words f (members w) s ≡ gather f 64 w s
      pick (yes e) = joined_none w s e
      pick (no e) = absurd (omega (arith, size_without_lowest w (omega arith) l))
  joined_by (suc n) w s l h = pick (ℕ_discrete w 0) (joined_by n (without_lowest w) (union s (f (lowest w))) (without_lowest_lt w l))
    where
      pick : Dec (w ≡ 0)
          → (size (without_lowest w) ≤ n
          → join_words f (members (without_lowest w)) (union s (f (lowest w))) ≡ gather f 64 (without_lowest w) (union s (f (lowest w))))
          → join_words f (members w) s ≡ gather f 64 w s
      pick (yes e) again = joined_none w s e
      pick (no e) again =
          let some : 0 < w = omega arith in
          ap (λ (l : List ℕ). join_words f l s) (members_take w some l)
          ∙ again (omega (arith, size_without_lowest w some l))
          ∙ sym (gather_step f w s some l)

  pub joined_gathers : (w s : ℕ) → w < 2 ^ 64 → join_words f (members w) s ≡ gather f 64 w s
  joined_gathers w s l = joined_by 64 w s l (size_le w)
