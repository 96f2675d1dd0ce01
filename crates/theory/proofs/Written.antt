-- The order on written walks is total and strict, so there is at most one written walk.
use Prim.Native.Nat.{ℕ, ◌<◌}
use mathlib.Core.Path.{◌≡◌, refl, sym, ap₂, subst}
use mathlib.Core.Logic.{◌⊎◌, inl, inr}
use mathlib.Core.List.{List, [], ◌∷◌}
use native.Mathlib.Omega.{arith}
use native.Mathlib.Decide.{dec_lt}
use lib.ListN.{length}
use Rattle.files.specs.Table.{Rule}
use Rattle.theory.specs.Written.{Smaller, here, later, Before, shorter, smaller, Written}

-- of two numbers
pub data Compared (a b : ℕ) : Type 0 where
  less : a < b → Compared a b
  equal : a ≡ b → Compared a b
  more : b < a → Compared a b

pub compared : (a b : ℕ) → Compared a b
compared a b = pick (dec_lt a b) (dec_lt b a)
  where
    pick : Dec (a < b) → Dec (b < a) → Compared a b
    pick (yes h) k = less h
    pick (no h) (yes k) = more k
    pick (no h) (no k) = equal (omega arith)

-- two lists of one length: equal, or one is smaller
pub smaller_total : (s t : List ℕ) → length s ≡ length t → Smaller s t ⊎ ((s ≡ t) ⊎ Smaller t s)
smaller_total [] [] e = inr (inl refl)
smaller_total [] (b ∷ t) e = absurd (omega arith)
smaller_total (a ∷ s) [] e = absurd (omega arith)
smaller_total (a ∷ s) (b ∷ t) e = pick (compared a b) (smaller_total s t (omega arith))
  where
    shorts : length s ≡ length t
    shorts = omega arith

    equal_heads : a ≡ b → Smaller s t ⊎ ((s ≡ t) ⊎ Smaller t s)
        → Smaller (a ∷ s) (b ∷ t) ⊎ (((a ∷ s) ≡ (b ∷ t)) ⊎ Smaller (b ∷ t) (a ∷ s))
    equal_heads p (inl h) = inl (subst (λ (z : ℕ). Smaller (a ∷ s) (z ∷ t)) p (later h))
    equal_heads p (inr (inl h)) = inr (inl (ap₂ (λ (x : ℕ) (l : List ℕ). x ∷ l) p h))
    equal_heads p (inr (inr h)) = inr (inr (subst (λ (z : ℕ). Smaller (z ∷ t) (a ∷ s)) p (later h)))

    pick : Compared a b → Smaller s t ⊎ ((s ≡ t) ⊎ Smaller t s)
        → Smaller (a ∷ s) (b ∷ t) ⊎ (((a ∷ s) ≡ (b ∷ t)) ⊎ Smaller (b ∷ t) (a ∷ s))
    pick (less h) again = inl (here h shorts)
    pick (equal p) again = equal_heads p again
    pick (more h) again = inr (inr (here h (sym shorts)))

-- of two lists, equal or one comes before the other
pub before_total : (s t : List ℕ) → Before s t ⊎ ((s ≡ t) ⊎ Before t s)
before_total s t = pick (compared (length s) (length t))
  where
    same_length : Smaller s t ⊎ ((s ≡ t) ⊎ Smaller t s) → Before s t ⊎ ((s ≡ t) ⊎ Before t s)
    same_length (inl h) = inl (smaller h)
    same_length (inr (inl h)) = inr (inl h)
    same_length (inr (inr h)) = inr (inr (smaller h))

    pick : Compared (length s) (length t) → Before s t ⊎ ((s ≡ t) ⊎ Before t s)
    pick (less h) = inl (shorter h)
    pick (equal e) = same_length (smaller_total s t e)
    pick (more h) = inr (inr (shorter h))

-- there is one written walk
pub written_unique : {parent : ℕ → ℕ} {rules : List Rule} {c x y : ℕ} {s t : List ℕ} → Written parent rules c x s y
    → Written parent rules c x t y → s ≡ t
written_unique {s = s} {t = t} a b = pick (before_total s t)
  where
    pick : Before s t ⊎ ((s ≡ t) ⊎ Before t s) → s ≡ t
    pick (inl h) = absurd (b.least s a.walk h)
    pick (inr (inl e)) = e
    pick (inr (inr h)) = absurd (a.least t b.walk h)
