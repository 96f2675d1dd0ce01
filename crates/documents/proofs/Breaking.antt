-- Laws of one rule: against the set of one part, and along the parts on one path.
use Prim.Native.Nat.{ℕ, zero, suc, ◌-◌, ◌<◌, ◌≤◌}
use mathlib.Core.Path.{◌≡◌, refl, sym, ap, ◌∙◌}
use mathlib.Core.Bool.{Bool, true, false, cond, not, beq}
use mathlib.Core.List.{List}
use native.Mathlib.Omega.{arith}
use lib.ListN.{get_or}
use borrow.Author.Tests.{lt-ltb, le-ltb}
use Rattle.std.specs.Prelude.{Option, Some, None}
use Rattle.files.specs.declared.kind.Kind.{Kind}
use Rattle.files.specs.declared.kind.Kind.TheVariants.{Implication, Absence, CoOccurrence}
use Rattle.files.specs.Kinds.{kind_number}
use Rattle.files.specs.Sets.{hasb}
use Rattle.files.specs.Table.{Rule}
use Rattle.documents.specs.Answers.{Place, At, Nowhere}
use Rattle.documents.specs.PartList.{part_limit}
use Rattle.documents.specs.Checking.{breaks}
use Rattle.documents.specs.Held.{part_number, Rising, rule, first_on, break_along}

-- ---- one part against one rule

module _ (k : Kind) (left right set l r : ℕ) (p q : Bool) (a : l ≡ left) (b : r ≡ right) (e : p ≡ hasb set l) (f : q ≡ hasb set r) where
  has_left : hasb set left ≡ p
  has_left = ap (hasb set) (sym a) ∙ sym e

  has_right : hasb set right ≡ q
  has_right = ap (hasb set) (sym b) ∙ sym f

  pub breaks_without : k ≡ Implication → p ≡ true → not q ≡ breaks (rule (kind_number k) left right) set
  unfolding breaks rule
  breaks_without g h = rw (g, has_left, has_right, h) refl

  pub breaks_neither : k ≡ Implication → p ≡ false → p ≡ breaks (rule (kind_number k) left right) set
  unfolding breaks rule
  breaks_neither g h = rw (g, has_left, has_right, h) refl

  pub breaks_both : k ≡ Absence → p ≡ true → q ≡ breaks (rule (kind_number k) left right) set
  unfolding breaks rule
  breaks_both g h = rw (g, has_left, has_right, h) refl

  pub breaks_apart : k ≡ Absence → p ≡ false → p ≡ breaks (rule (kind_number k) left right) set
  unfolding breaks rule
  breaks_apart g h = rw (g, has_left, has_right, h) refl

  pub breaks_one : k ≡ CoOccurrence → not (beq p q) ≡ breaks (rule (kind_number k) left right) set
  unfolding breaks rule
  breaks_one g = rw (g, has_left, has_right) (by p q)
    where
      by : (t u : Bool) → not (beq t u) ≡ cond t (not u) u
      by true true = refl
      by true false = refl
      by false true = refl
      by false false = refl

pub ruleset breaks_laws = (breaks_without, breaks_neither, breaks_both, breaks_apart, breaks_one)

-- ---- along the parts on one path

module _ (ru : Rule) (sets : List ℕ) (next : List (Option ℕ)) where
  pub along_out : (fuel n : ℕ) → part_limit ≤ n → break_along ru sets next part_limit fuel n ≡ Nowhere
  unfolding break_along
  along_out zero n h = refl
  along_out (suc fuel) n h = rw (le-ltb n part_limit h)

  pub along_breaks : (fuel n : ℕ) → n < part_limit → breaks ru (get_or sets n 0) ≡ true → break_along ru sets next part_limit (suc fuel) n ≡ At n
  unfolding break_along
  along_breaks fuel n h e = rw (lt-ltb n part_limit h, e)

  pub along_keeps : (fuel n : ℕ) → n < part_limit → breaks ru (get_or sets n 0) ≡ false
      → break_along ru sets next part_limit (suc fuel) n ≡ break_along ru sets next part_limit fuel (part_number (get_or next n None))
  unfolding break_along
  along_keeps fuel n h e = rw (lt-ltb n part_limit h, e)

-- what remains from where the parts are gone along is the whole answer
pub record AlongSoFar (ru : Rule) (sets : List ℕ) (next : List (Option ℕ)) (whole : Place) (at : Option ℕ) : Type 0 where
  pub fuel : ℕ
  pub enough : part_limit - part_number at ≤ fuel
  pub rest : break_along ru sets next part_limit fuel (part_number at) ≡ whole

pub along_start : (ru : Rule) (sets : List ℕ) (first next : List (Option ℕ)) (c d : ℕ) (at : Option ℕ) → d ≡ c → d < 256 → at ≡ get_or first d None
    → AlongSoFar ru sets next (break_along ru sets next part_limit part_limit (first_on first c)) at
unfolding first_on
along_start ru sets first next c d at e h f =
    record {
      fuel = part_limit;
      enough = omega arith;
      rest = ap (λ (a : Option ℕ). break_along ru sets next part_limit part_limit (part_number a)) f ∙ rw (← e, lt-ltb d 256 h) refl;
    }

module _ (ru : Rule) (sets : List ℕ) (next : List (Option ℕ)) (whole : Place) (at : Option ℕ) (inv : AlongSoFar ru sets next whole at) where
  pub along_end : at ≡ None → Nowhere ≡ whole
  along_end e =
      let out : part_limit ≤ part_number at = rw e (omega arith) in
      sym (along_out ru sets next inv.fuel (part_number at) out) ∙ inv.rest

  module _ (n : ℕ) (e : at ≡ Some n) (h : n < part_limit) (t : Bool) (b : t ≡ breaks ru (get_or sets n 0)) where
    here : (fuel : ℕ) → break_along ru sets next part_limit fuel (part_number at) ≡ whole → break_along ru sets next part_limit fuel n ≡ whole
    here fuel i = ap (λ (a : Option ℕ). break_along ru sets next part_limit fuel (part_number a)) (sym e) ∙ i

    pub along_here : t ≡ true → At n ≡ whole
    along_here f = by inv.fuel (ap (λ (a : Option ℕ). part_number a) e) inv.enough inv.rest
      where
        by : (fuel : ℕ) → part_number at ≡ n → part_limit - part_number at ≤ fuel → break_along ru sets next part_limit fuel (part_number at) ≡ whole → At n ≡ whole
        by zero k g i = absurd (omega arith)
        by (suc fuel) k g i = sym (along_breaks ru sets next fuel n h (sym b ∙ f)) ∙ here (suc fuel) i

    pub along_on : (then : Option ℕ) → t ≡ false → Rising next → then ≡ get_or next n None → AlongSoFar ru sets next whole then
    along_on then f rising g = by inv.fuel (ap (λ (a : Option ℕ). part_number a) e) inv.enough inv.rest
      where
        farther : (a : Option ℕ) → get_or next n None ≡ a → n < part_number a
        farther None j = omega arith
        farther (Some k) j = rising.greater n k j

        far : n < part_number then
        far = farther then (sym g)

        by : (fuel : ℕ) → part_number at ≡ n → part_limit - part_number at ≤ fuel → break_along ru sets next part_limit fuel (part_number at) ≡ whole
            → AlongSoFar ru sets next whole then
        by zero k l i = absurd (omega arith)
        by (suc fuel) k l i =
            record {
              fuel = fuel;
              enough = omega (arith, far);
              rest =
                  ap (λ (a : Option ℕ). break_along ru sets next part_limit fuel (part_number a)) g
                  ∙ sym (along_keeps ru sets next fuel n h (sym b ∙ f)) ∙ here (suc fuel) i;
            }
