-- What a loop over the members of a set knows of each: it is a path, and joining goes on with the rest.
use mathlib.Core.List.{List, [], ◌∷◌, Memᴰ}
use Rattle.std.proofs.Common.{◌≡◌, ◌<◌, ℕ, subst, sym, ap, refl}
use Rattle.files.specs.Sets.{members, union, join_words}
use Rattle.files.proofs.SetMembers.{from_members}

module _ (w : ℕ) {x : ℕ} {rest : List ℕ} (e : members w ≡ x ∷ rest) where
  -- the next member is one of the 64 paths
  pub next_small : x < 64
  unfolding members
  next_small = (from_members w 64 0 x (subst (Memᴰ x) (sym e) (Memᴰ.head refl))).2

  -- joining the members is joining the next, then the rest
  pub joins_next : (f : ℕ → ℕ) (joined : ℕ) → join_words f (members w) joined ≡ join_words f rest (union joined (f x))
  unfolding join_words
  joins_next f joined = ap (λ (l : List ℕ). join_words f l joined) e

-- joining no member leaves what is joined
pub joins_none : (w : ℕ) → members w ≡ [] → (f : ℕ → ℕ) (joined : ℕ) → join_words f (members w) joined ≡ joined
unfolding join_words
joins_none w e f joined = ap (λ (l : List ℕ). join_words f l joined) e
