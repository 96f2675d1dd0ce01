-- Laws of grounds written in numbers.
use Prim.Native.Nat.{ℕ, suc, ◌+◌, ◌≤◌, ◌<◌}
use mathlib.Core.Path.{◌≡◌, sym, ap, subst}
use mathlib.Core.List.{List, [], ◌∷◌, ◌++◌, append-nil, append_assoc}
use native.Mathlib.Omega.{arith}
use lib.ListN.{length, length-append}
use Rattle.std.specs.Prelude.{Option, Some, None}
use Rattle.theory.specs.Evidence.{walk_numbers}
use Rattle.reachable.specs.Sheet.{context_in, rule_in, place_in}
use Rattle.evidence.specs.declared.ground.Ground.{Ground}
use Rattle.evidence.specs.declared.ground.Ground.TheVariants.{Direct, Dead, Pair}
use Rattle.evidence.specs.Nearer.{walk_on}
use Rattle.evidence.specs.Stored.{Stored}
use Rattle.evidence.specs.Grounds.{InRange, first_end, second_end, direct_on, end_numbers, dead_on, pair_on, ground_numbers}

-- ---- numbers one after the other

pub stored_length : (ns before after : List ℕ) (most : ℕ) → Stored ns most before after → length after ≤ length before + most
stored_length ns before after most f = omega (arith, f.few, ap length f.numbers, length-append before ns)

pub stored_append : (ns ms before mid after : List ℕ) (a b : ℕ) → Stored ns a before mid → Stored ms b mid after → Stored (ns ++ ms) (a + b) before after
stored_append ns ms before mid after a b f g = record {
  few = omega (arith, f.few, g.few, length-append ns ms);
  numbers = rw (g.numbers, f.numbers) (append_assoc before ns ms);
}

stored_more : (ns before after : List ℕ) (a b : ℕ) → a ≤ b → Stored ns a before after → Stored ns b before after
stored_more ns before after a b h f = record { few = omega (arith, f.few); numbers = f.numbers }

stored_one : (ns before mid after : List ℕ) (most a : ℕ) → mid ≡ before ++ a ∷ [] → Stored ns most mid after → Stored (a ∷ ns) (suc most) before after
stored_one ns before mid after most a e f = record { few = omega (arith, f.few); numbers = rw (f.numbers, e) (append_assoc before (a ∷ []) ns) }

-- ---- each kind of evidence

module _ (sheet : List ℕ) where
  pub direct_stored : (p q c : ℕ) (before mid after : List ℕ) → c ≡ context_in sheet p q → mid ≡ before ++ 1 ∷ []
      → Stored (walk_numbers (walk_on sheet c p q)) 65 mid after → Stored (direct_on sheet p q) 66 before after
  unfolding direct_on
  direct_stored p q c before mid after is e f = rw (← is) (stored_one (walk_numbers (walk_on sheet c p q)) before mid after 65 1 e f)

  pub ends_stored : (w x y side a b c : ℕ) (before mid after : List ℕ) → a ≡ place_in w → b ≡ first_end w side → c ≡ second_end w side
      → Stored (walk_numbers (walk_on sheet a x b)) 65 before mid → Stored (walk_numbers (walk_on sheet a y c)) 65 mid after
      → Stored (end_numbers sheet w x y side) 130 before after
  unfolding end_numbers
  ends_stored w x y side a b c before mid after e f g h k = rw (← e, ← f, ← g) (stored_append _ _ before mid after 65 65 h k)

  pub dead_stored : (p y w r : ℕ) (before a b c d mid after : List ℕ) → r ≡ rule_in w → a ≡ before ++ 2 ∷ [] → b ≡ a ++ p ∷ [] → c ≡ b ++ y ∷ []
      → d ≡ c ++ r ∷ [] → Stored (walk_numbers (walk_on sheet 0 p y)) 65 d mid → Stored (end_numbers sheet w y y 0) 130 mid after
      → Stored (dead_on sheet p y w) 199 before after
  unfolding dead_on
  dead_stored p y w r before a b c d mid after e f g h k m n =
      rw (← e)
      (stored_one _ before a after 198 2 f
      (stored_one _ a b after 197 p g
      (stored_one _ b c after 196 y h (stored_one _ c d after 195 r k (stored_append _ _ d mid after 65 130 m n)))))

  pub pair_stored : (x y w side r : ℕ) (before a b c d z after : List ℕ) → r ≡ rule_in w → a ≡ before ++ 3 ∷ [] → b ≡ a ++ x ∷ [] → c ≡ b ++ y ∷ []
      → d ≡ c ++ r ∷ [] → z ≡ d ++ side ∷ [] → Stored (end_numbers sheet w x y side) 130 z after
      → Stored (pair_on sheet x y w side) 135 before after
  unfolding pair_on
  pair_stored x y w side r before a b c d z after e f g h k m n =
      rw (← e)
      (stored_one _ before a after 134 3 f
      (stored_one _ a b after 133 x g (stored_one _ b c after 132 y h (stored_one _ c d after 131 r k (stored_one _ d z after 130 side m n)))))

pub ruleset stored_laws = (stored_length, direct_stored, ends_stored, dead_stored, pair_stored)

-- ---- a ground

module _ (sheet : List ℕ) (g : Ground) (before after : List ℕ) where
  pub direct_ground : {p q : ℕ} → g ≡ Direct p q → Stored (direct_on sheet p q) 66 before after → Stored (ground_numbers sheet (Some g)) 199 before after
  unfolding ground_numbers
  direct_ground e f = rw e (stored_more _ before after 66 199 (omega arith) f)

  pub dead_ground_lem : {p y w : ℕ} → g ≡ Dead p y w → Stored (dead_on sheet p y w) 199 before after → Stored (ground_numbers sheet (Some g)) 199 before after
  unfolding ground_numbers
  dead_ground_lem e f = rw e f

  pub pair_ground_lem : {x y w side : ℕ} → g ≡ Pair x y w side → Stored (pair_on sheet x y w side) 135 before after
      → Stored (ground_numbers sheet (Some g)) 199 before after
  unfolding ground_numbers
  pair_ground_lem e f = rw e (stored_more _ before after 135 199 (omega arith) f)

module _ (g : Ground) (n : ℕ) (range : InRange (Some g)) (low : n ≤ 200) where
  pub direct_range : {p q : ℕ} → g ≡ Direct p q → (p < 64) × (q < 64) × (n ≤ 200)
  direct_range e = let r = range.direct _ _ (ap Some e) in (r.0, r.1, low)

  pub dead_range : {p y w : ℕ} → g ≡ Dead p y w → (p < 64) × (y < 64) × (n ≤ 200)
  dead_range e = let r = range.dead _ _ _ (ap Some e) in (r.0, r.1, low)

  pub pair_range : {x y w side : ℕ} → g ≡ Pair x y w side → (x < 64) × (y < 64) × (side ≤ 1) × (n ≤ 200)
  pair_range e = let r = range.pair _ _ _ _ (ap Some e) in (r.0, r.1, r.2, low)

pub ruleset ground_laws = (direct_ground, dead_ground_lem, pair_ground_lem)

module _ (sheet : List ℕ) (g : Option Ground) (before : List ℕ) where
  pub none_stored : g ≡ None → Stored (ground_numbers sheet g) 199 before before
  unfolding ground_numbers
  none_stored e = rw e (record { few = omega arith; numbers = sym (append-nil before) })

  pub some_stored : {h : Ground} (after : List ℕ) → g ≡ Some h → Stored (ground_numbers sheet (Some h)) 199 before after
      → Stored (ground_numbers sheet g) 199 before after
  some_stored after e f = rw e f

pub ruleset given_laws = (none_stored, some_stored)

pub both_stored : (ns ms before mid after : List ℕ) → before ≡ [] → Stored ns 199 before mid → Stored ms 199 mid after → Stored (ns ++ ms) 398 [] after
both_stored ns ms before mid after e f g = subst (λ (l : List ℕ). Stored (ns ++ ms) 398 l after) e (stored_append ns ms before mid after 199 199 f g)

pub both_room : (ns before mid : List ℕ) → before ≡ [] → Stored ns 199 before mid → length mid ≤ 200
both_room ns before mid e f = omega (arith, stored_length ns before mid 199 f, ap length e)

pub ruleset both_laws = (both_room, both_stored)
