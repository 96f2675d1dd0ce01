-- Laws of grounds and of the decisions, in the words of the code.
use Prim.Native.Nat.{ℕ}
use mathlib.Core.Path.{◌≡◌, refl, ap, ◌∙◌}
use mathlib.Core.Bool.{Bool, true, false, not}
use mathlib.Core.List.{List}
use lib.Dec.{eqb, ltb}
use borrow.Author.Tests.{eq-eqb, ne_eqb}
use Rattle.std.specs.Prelude.{Option, Some, None, MatchOption}
use Rattle.std.specs.Option.{option_map}
use Rattle.files.specs.Sets.{lowest, UpTo64}
use Rattle.theory.specs.Least.{some_in}
use Rattle.reachable.specs.Sheet.{row, context_in, left_in, right_in, absences_in}
use Rattle.evidence.specs.declared.ground.Ground.{Ground}
use Rattle.evidence.specs.declared.ground.Ground.TheVariants.{Direct, Dead, Pair}
use Rattle.evidence.specs.Nearer.{nearer}
use Rattle.evidence.specs.Choices.{first_row, first_word, clashes_at, clashes_in, straight_in, pair_in, reachers_in, root_in}
use Rattle.evidence.specs.Grounds.{or_else, row_ground, dead_at, dead_from, dead_ground, pair_with, pair_ground, root_with, root_ground, dead_lowest, direct_in, implication_ground}

-- ---- the first of two grounds

pub or_met : (g h r : Option Ground) (P : Type 0) → MatchOption g P (λ x. r ≡ Some x) → (P → r ≡ h) → r ≡ or_else g h
unfolding or_else
or_met None h r P m f = f m
or_met (Some x) h r P m f = m

pub or_chain : (g h k : Option Ground) → or_else (or_else g h) k ≡ or_else g (or_else h k)
unfolding or_else
or_chain None h k = refl
or_chain (Some x) h k = refl

-- ---- the ground that a row makes

module _ (sheet : List ℕ) (make : ℕ → Ground) (test : ℕ → Bool) where
  row_made : (o : Option ℕ) → o ≡ first_word sheet test → option_map make o ≡ row_ground sheet make (first_row sheet test)
  unfolding first_word row_ground
  row_made o e = ap (option_map make) e ∙ by (ltb (first_row sheet test) (absences_in sheet)) refl
    where
      by : (b : Bool) → ltb (first_row sheet test) (absences_in sheet) ≡ b
          → option_map make (first_word sheet test) ≡ row_ground sheet make (first_row sheet test)
      by true f = rw (first_word, row_ground, f)
      by false f = rw (first_word, row_ground, f)

-- ---- dead

module _ (sheet : List ℕ) (clash p w : ℕ) (is : w ≡ clashes_in sheet clash p) where
  pub dead_clear : w ≡ 0 → None ≡ dead_ground sheet clash p
  unfolding dead_ground dead_from
  dead_clear z = rw (← is, dead_from, eq-eqb w 0 z)

  pub dead_met : (y : ℕ) → (w ≡ 0 → ⊥) → UpTo64 (lowest w) y → (o : Option ℕ) → o ≡ first_word sheet (clashes_at sheet y)
      → option_map (Dead p y) o ≡ dead_ground sheet clash p
  unfolding dead_ground dead_from dead_at
  dead_met y some least o e =
      row_made sheet (Dead p y) (clashes_at sheet y) o e
      ∙ ap (dead_at sheet p) least.is
      ∙ (let f : dead_at sheet p (lowest w) ≡ dead_from sheet p w = rw (dead_from, ne_eqb w 0 some) in f)
      ∙ ap (dead_from sheet p) is

-- ---- a pair

module _ (sheet : List ℕ) (p q : ℕ) (o : Option ℕ) (first : o ≡ first_word sheet (pair_in sheet p q)) where
  pub pair_met : option_map (pair_with sheet p q) o ≡ pair_ground sheet p q
  unfolding pair_ground
  pair_met = row_made sheet (pair_with sheet p q) (pair_in sheet p q) o first

  module _ (w : ℕ) (t : Bool) (is : t ≡ straight_in sheet p q w) (some : o ≡ Some w) where
    pub pair_straight : t ≡ true → Some (Pair p q w 0) ≡ pair_ground sheet p q
    unfolding pair_with
    pair_straight e = (let k : Pair p q w 0 ≡ pair_with sheet p q w = rw (← is, e) in ap Some k) ∙ (rw some at pair_met)

    pub pair_crossed : t ≡ false → Some (Pair p q w 1) ≡ pair_ground sheet p q
    unfolding pair_with
    pair_crossed e = (let k : Pair p q w 1 ≡ pair_with sheet p q w = rw (← is, e) in ap Some k) ∙ (rw some at pair_met)

module _ (sheet : List ℕ) (needed : ℕ) (o : Option ℕ) (first : o ≡ first_word sheet (root_in sheet needed)) where
  pub root_met : option_map (root_with sheet needed) o ≡ root_ground sheet needed
  unfolding root_ground
  root_met = row_made sheet (root_with sheet needed) (root_in sheet needed) o first

  pub root_found : (w l r a b x y : ℕ) → o ≡ Some w → l ≡ left_in w → r ≡ right_in w → a ≡ reachers_in sheet needed l
      → b ≡ reachers_in sheet needed r → UpTo64 (lowest a) x → UpTo64 (lowest b) y → Some (Pair x y w 0) ≡ root_ground sheet needed
  unfolding root_with
  root_found w l r a b x y some e f g k u v =
      (let m : Pair x y w 0 ≡ root_with sheet needed w = rw (← e, ← f, ← g, ← k, u.is, v.is) in ap Some m)
      ∙ (rw some at root_met)

-- ---- questions

module _ (sheet : List ℕ) (p q : ℕ) where
  pub direct_same : p ≡ q → true ≡ direct_in sheet p q
  unfolding direct_in
  direct_same e = rw (eq-eqb p q e)

  pub direct_walk : (c within s : ℕ) → (p ≡ q → ⊥) → c ≡ context_in sheet p q → within ≡ row 1088 sheet c → s ≡ nearer sheet within p q
      → not (eqb s 0) ≡ direct_in sheet p q
  unfolding direct_in some_in
  direct_walk c within s n e f g = rw (ne_eqb p q n, ← e, ← f, ← g)

pub ruleset direct_laws = (direct_same, direct_walk)

module _ (sheet : List ℕ) (clash p q : ℕ) (t : Bool) (is : t ≡ direct_in sheet p q) where
  pub implication_direct : t ≡ true → Some (Direct p q) ≡ implication_ground sheet clash p q
  unfolding implication_ground
  implication_direct h = rw (implication_ground, ← is, h)

  pub implication_dead : (g : Option Ground) → t ≡ false → g ≡ dead_ground sheet clash p → g ≡ implication_ground sheet clash p q
  unfolding implication_ground
  implication_dead g h e = rw (implication_ground, ← is, h) e

pub ruleset implication_laws = (implication_direct, implication_dead)

-- ---- an inconsistent set

module _ (sheet : List ℕ) (clash d : ℕ) where
  pub lowest_none : d ≡ 0 → None ≡ dead_lowest sheet clash d
  unfolding dead_lowest
  lowest_none z = rw (dead_lowest, eq-eqb d 0 z)

  pub lowest_dead : (p : ℕ) (g : Option Ground) → (d ≡ 0 → ⊥) → UpTo64 (lowest d) p → g ≡ dead_ground sheet clash p → g ≡ dead_lowest sheet clash d
  unfolding dead_lowest
  lowest_dead p g n u e = e ∙ ap (dead_ground sheet clash) u.is ∙ rw (dead_lowest, ne_eqb d 0 n)

pub ruleset lowest_laws = (lowest_none, lowest_dead)
