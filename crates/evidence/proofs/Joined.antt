-- Words of paths that are joined: what the union has.
use Prim.Native.Nat.{ℕ, ◌^◌, ◌<◌}
use mathlib.Core.Path.{◌≡◌, refl, subst}
use mathlib.Core.Logic.{◌⊎◌, inl, inr}
use mathlib.Core.List.Memᴰ
use mathlib.Core.List.{List, [], ◌∷◌, Memᴰ}
use Rattle.files.specs.Sets.{Has, union, join_words}
use Rattle.files.proofs.SetBits.{has_union, union_lt}

module _ (word : ℕ → ℕ) where
  -- the word of one of the paths has i
  pub record Among (zs : List ℕ) (i : ℕ) : Type 0 where
    pub of : ℕ
    pub member : Memᴰ of zs
    pub is : Has (word of) i

  module _ (i : ℕ) where
    pub joined_in : (zs : List ℕ) (joined : ℕ) → Has (join_words word zs joined) i → Has joined i ⊎ Among zs i
    unfolding join_words
    joined_in [] joined h = inl h
    joined_in (z ∷ rest) joined h = pick (joined_in rest (union joined (word z)) h)
      where
        either : Has joined i ⊎ Has (word z) i → Has joined i ⊎ Among (z ∷ rest) i
        either (inl k) = inl k
        either (inr k) = inr (record { of = z; member = Memᴰ.head refl; is = k })

        pick : Has (union joined (word z)) i ⊎ Among rest i → Has joined i ⊎ Among (z ∷ rest) i
        pick (inl k) = either ((has_union joined (word z) i).0 k)
        pick (inr k) = inr (record { of = k.of; member = Memᴰ.tail k.member; is = k.is })

    joined_kept : (zs : List ℕ) (joined : ℕ) → Has joined i → Has (join_words word zs joined) i
    unfolding join_words
    joined_kept [] joined h = h
    joined_kept (z ∷ rest) joined h = joined_kept rest (union joined (word z)) ((has_union joined (word z) i).1 (inl h))

    pub joined_all : (zs : List ℕ) (joined of : ℕ) → Memᴰ of zs → Has (word of) i → Has (join_words word zs joined) i
    unfolding join_words
    joined_all [] joined of m h = absurd (Memᴰ.not-nil m)
    joined_all (z ∷ rest) joined of m h = pick (λ k. joined_all rest (union joined (word z)) of k h) (Memᴰ.cases_cons m)
      where
        pick : (Memᴰ of rest → Has (join_words word rest (union joined (word z))) i) → (of ≡ z) ⊎ Memᴰ of rest
            → Has (join_words word rest (union joined (word z))) i
        pick again (inl e) =
            joined_kept rest (union joined (word z)) ((has_union joined (word z) i).1 (inr (subst (λ (t : ℕ). Has (word t) i) e h)))
        pick again (inr k) = again k

  pub joined_small : ((z : ℕ) → word z < 2 ^ 64) → (zs : List ℕ) (joined : ℕ) → joined < 2 ^ 64 → join_words word zs joined < 2 ^ 64
  unfolding join_words
  joined_small small [] joined h = h
  joined_small small (z ∷ rest) joined h = joined_small small rest (union joined (word z)) (union_lt joined (word z) h (small z))
