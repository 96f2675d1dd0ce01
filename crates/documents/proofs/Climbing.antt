-- Laws of the code that climbs to the context.
use Prim.Native.Nat.{ℕ, suc, ◌+◌, ◌-◌, ◌<◌, ◌≤◌}
use mathlib.Core.Path.{◌≡◌, refl, sym, ap, ap₂, fun_ext, ◌∙◌}
use mathlib.Core.Bool.{cond}
use mathlib.Core.List.{List, map, ◌∷◌}
use native.Mathlib.Decide.{dec_lt}
use native.Mathlib.Omega.{arith}
use lib.ListN.{length, get_or, length-map, get_or-eq_default}
use lib.Dec.{ltb}
use borrow.Author.Tests.{lt-ltb, le-ltb, eq-eqb, ne_eqb}
use Rattle.files.specs.Rules.{paths_from, parents_in}
use Rattle.files.specs.Table.{Path, parent_in}
use Rattle.files.proofs.Tables.{parents_are, paths_length}
use Rattle.documents.specs.Paths.{meet, context_of}
use Rattle.documents.specs.Reading.{parent_at}

-- the cleaned parents of a table are its parents
pub parents_is : (parent label : List ℕ) (count : ℕ) (r : List ℕ) → count ≤ 64 → r ≡ parents_in parent count
    → parent_at r ≡ parent_in (paths_from parent label 1 (count - 1))
unfolding parent_at
parents_is parent label count r few e = fun_ext λ x. by x (dec_lt x 64)
  where
    ps : List Path
    ps = paths_from parent label 1 (count - 1)

    many : length (map (λ (p : Path). p.parent) ps) ≡ count - 1
    many = length-map (paths_from parent label 1 (count - 1)) (λ (p : Path). p.parent) ∙ paths_length parent label 1 (count - 1)

    by : (x : ℕ) → Dec (x < 64) → cond (ltb x 64) (get_or r x 0) 0 ≡ parent_in ps x
    by x (yes h) = rw (lt-ltb x 64 h, e) (parents_are parent label count x few)
    by x (no h) =
        rw (le-ltb x 64 (omega arith)) (sym (get_or-eq_default (0 ∷ map (λ (p : Path). p.parent) ps) 0 {n = x} (omega (arith, many))))

pub parent_in_lem : (parent : List ℕ) (x i : ℕ) → i ≡ x → i < 64 → get_or parent i 0 ≡ parent_at parent x
unfolding parent_at
parent_in_lem parent x i e h = rw (← e, lt-ltb i 64 h)

pub parent_past : (parent : List ℕ) (x i : ℕ) → i ≡ x → 64 ≤ i → 0 ≡ parent_at parent x
unfolding parent_at
parent_past parent x i e h = rw (← e, le-ltb i 64 h)

pub ruleset parent_laws = (parent_in_lem, parent_past)

-- one step of the climb
module _ (parent : ℕ → ℕ) (fuel a b : ℕ) where
  climb_same : a ≡ b → meet parent (suc fuel) a b ≡ a
  unfolding meet
  climb_same e = rw (eq-eqb a b e, meet) refl

  climb_right : (a ≡ b → ⊥) → a < b → meet parent (suc fuel) a b ≡ meet parent fuel a (parent b)
  unfolding meet
  climb_right n h = rw (ne_eqb a b n, lt-ltb a b h, meet) refl

  climb_left : (a ≡ b → ⊥) → b ≤ a → meet parent (suc fuel) a b ≡ meet parent fuel (parent a) b
  unfolding meet
  climb_left n h = rw (ne_eqb a b n, le-ltb a b h, meet) refl

pub meet_start : (parent : ℕ → ℕ) (fuel a b : ℕ) → meet parent (fuel - 0) a b ≡ meet parent fuel a b
meet_start parent fuel a b = let e : fuel - 0 ≡ fuel = omega arith in ap (λ (k : ℕ). meet parent k a b) e

module _ (parent : ℕ → ℕ) (fuel n a b w : ℕ) (inv : meet parent (fuel - n) a b ≡ w) where
  pub meet_end : fuel ≤ n → a ≡ w
  unfolding meet
  meet_end h = let e : fuel - n ≡ 0 = omega arith in rw e at inv

  module _ (more : n < fuel) where
    step : meet parent (suc (fuel - (n + 1))) a b ≡ w
    step = let e : suc (fuel - (n + 1)) ≡ fuel - n = omega arith in ap (λ (k : ℕ). meet parent k a b) e ∙ inv

    pub meet_same : a ≡ b → a ≡ w
    meet_same e = sym (climb_same parent (fuel - (n + 1)) a b e) ∙ step

    pub meet_right : (r : ℕ) → (a ≡ b → ⊥) → a < b → r ≡ parent b → meet parent (fuel - (n + 1)) a r ≡ w
    meet_right r n' h e = ap (meet parent (fuel - (n + 1)) a) e ∙ sym (climb_right parent (fuel - (n + 1)) a b n' h) ∙ step

    pub meet_left : (r : ℕ) → (a ≡ b → ⊥) → b ≤ a → r ≡ parent a → meet parent (fuel - (n + 1)) r b ≡ w
    meet_left r n' h e = ap (λ (z : ℕ). meet parent (fuel - (n + 1)) z b) e ∙ sym (climb_left parent (fuel - (n + 1)) a b n' h) ∙ step

pub ruleset meet_laws = (meet_start, meet_same, meet_right, meet_left, meet_end)

pub context_is : (parent : ℕ → ℕ) (p q a b r : ℕ) → a ≡ p → b ≡ q → r ≡ meet parent (a + b) p q → r ≡ context_of parent p q
unfolding context_of
context_is parent p q a b r e f g = g ∙ ap₂ (λ (x y : ℕ). meet parent (x + y) p q) e f
