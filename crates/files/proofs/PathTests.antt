-- Laws of the tests of a number, of a parent and of a label.
use Prim.Native.Nat.{ℕ, suc, ◌+◌, ◌-◌, ◌<◌, ◌≤◌}
use mathlib.Core.Path.{◌≡◌, refl, sym, ◌∙◌}
use mathlib.Core.Bool.{Bool, true, false}
use mathlib.Core.List.{List, ◌∷◌}
use native.Mathlib.Omega.{arith}
use lib.ListN.{length, get_or}
use lib.Dec.{ltb, eqb}
use borrow.Author.Tests.{eq-eqb, ne_eqb, lt-ltb, le-ltb, le-leb, lt-leb, ltb-true}
use Rattle.files.specs.RuleFile.{between, same_child, repeats, parent_test, label_test, depths}
use Rattle.files.specs.Rules.{paths_from, padded}
use Rattle.files.specs.Table.{Path}
use Rattle.files.proofs.Padded.{padded_get}
use Rattle.files.proofs.Tables.{paths_length}

-- a number between two others passes, one outside meets its refusal
pub between_low : (low past k n : ℕ) → n < low → between low past k n ≡ k
unfolding between
between_low low past k n h = rw (lt-leb low n h)

pub between_past : (low past k n : ℕ) → low ≤ n → past ≤ n → between low past k n ≡ k
unfolding between
between_past low past k n h l = rw (le-leb low n h, le-ltb n past l)

pub between_in : (low past k n : ℕ) → low ≤ n → n < past → between low past k n ≡ 0
unfolding between
between_in low past k n h l = rw (le-leb low n h, lt-ltb n past l)

-- the test in the words of the code
pub test_low : (low past k n : ℕ) → n < low → k ≡ between low past k n
test_low low past k n h = sym (between_low low past k n h)

pub test_past : (low past k n : ℕ) → low ≤ n → past ≤ n → k ≡ between low past k n
test_past low past k n h l = sym (between_past low past k n h l)

pub test_in : (low past k n : ℕ) → low ≤ n → n < past → 0 ≡ between low past k n
test_in low past k n h l = sym (between_in low past k n h l)

pub ruleset between_laws = (test_low, test_past, test_in)

pub same_parent : (parent label p l : ℕ) → parent ≡ p → eqb label l ≡ same_child parent label p l
unfolding same_child
same_parent parent label p l e = rw (eq-eqb parent p e)

pub other_parent : (parent label p l : ℕ) → (parent ≡ p → ⊥) → false ≡ same_child parent label p l
unfolding same_child
other_parent parent label p l e = rw (ne_eqb parent p e)

-- the paths from x on begin with path x
pub paths_step : (parent label : List ℕ) (x own : ℕ) → x < own
    → paths_from parent label x (own - x) ≡ record { parent = get_or parent x 0; label = get_or label x 0 } ∷ paths_from parent label (x + 1) (own - (x + 1))
unfolding paths_from
paths_step parent label x own h = rw (let e : own - x ≡ suc (own - (x + 1)) = omega arith in e)

module _ (parent label : List ℕ) (x own p l : ℕ) (w : Bool) (inv : repeats (paths_from parent label x (own - x)) p l ≡ w) where
  module _ (h : x < own) where
    pub repeats_here : get_or parent x 0 ≡ p → get_or label x 0 ≡ l → true ≡ w
    unfolding repeats same_child
    repeats_here e f = rw (paths_step parent label x own h, eq-eqb (get_or parent x 0) p e, eq-eqb (get_or label x 0) l f) at inv

    pub repeats_other : (get_or parent x 0 ≡ p → ⊥) → repeats (paths_from parent label (x + 1) (own - (x + 1))) p l ≡ w
    unfolding repeats same_child
    repeats_other e = rw (paths_step parent label x own h, ne_eqb (get_or parent x 0) p e) at inv

    pub repeats_label : get_or parent x 0 ≡ p → (get_or label x 0 ≡ l → ⊥) → repeats (paths_from parent label (x + 1) (own - (x + 1))) p l ≡ w
    unfolding repeats same_child
    repeats_label e f = rw (paths_step parent label x own h, eq-eqb (get_or parent x 0) p e, ne_eqb (get_or label x 0) l f) at inv

  pub repeats_end : own ≤ x → false ≡ w
  unfolding repeats paths_from
  repeats_end h = rw (let e : own - x ≡ 0 = omega arith in e) at inv

pub ruleset repeats_laws = (repeats_here, repeats_other, repeats_label, repeats_end)

module _ (depth : List ℕ) (own p x : ℕ) (is : x ≡ p) where
  pub parent_passes : (d : ℕ) → x < own → d ≡ get_or depth x 0 → d < 8 → 0 ≡ parent_test depth own p
  unfolding parent_test
  parent_passes d h e l = rw (← is, lt-ltb x own h, ← e, lt-ltb d 8 l)

  pub parent_deep : (d : ℕ) → x < own → d ≡ get_or depth x 0 → 8 ≤ d → 5 ≡ parent_test depth own p
  unfolding parent_test
  parent_deep d h e l = rw (← is, lt-ltb x own h, ← e, le-ltb d 8 l)

  pub parent_late : own ≤ x → 4 ≡ parent_test depth own p
  unfolding parent_test
  parent_late h = rw (← is, le-ltb x own h)

pub ruleset parent_laws = (parent_passes, parent_deep, parent_late)

module _ (parent label : List ℕ) (own p l : ℕ) (t : Bool) (is : t ≡ repeats (paths_from parent label 1 (own - 1)) p l) where
  pub label_again : t ≡ true → 6 ≡ label_test (paths_from parent label 1 (own - 1)) p l
  unfolding label_test
  label_again e = rw (← is, e)

  pub label_new : t ≡ false → 0 ≡ label_test (paths_from parent label 1 (own - 1)) p l
  unfolding label_test
  label_new e = rw (← is, e)

pub ruleset label_laws = (label_again, label_new)

-- a parent that passes is below its path's number and not too deep
parent_passed : (depth : List ℕ) (own p w : ℕ) → w ≡ parent_test depth own p → w ≤ 0 → (p < own) × (get_or depth p 0 < 8)
unfolding parent_test
parent_passed depth own p w e h = by (ltb p own) refl (ltb (get_or depth p 0) 8) refl
  where
    by : (t : Bool) → ltb p own ≡ t → (u : Bool) → ltb (get_or depth p 0) 8 ≡ u → (p < own) × (get_or depth p 0 < 8)
    by true f true g = (ltb-true p own f, ltb-true (get_or depth p 0) 8 g)
    by true f false g = absurd (let z : w ≡ 5 = e ∙ rw (f, g) in omega arith)
    by false f u g = absurd (let z : w ≡ 4 = e ∙ rw f in omega arith)

pub parent_below : (depth : List ℕ) (own p w : ℕ) → w ≡ parent_test depth own p → w ≤ 0 → p < own
parent_below depth own p w e h = (parent_passed depth own p w e h).0

pub parent_shallow : (depth : List ℕ) (own p w : ℕ) → w ≡ parent_test depth own p → w ≤ 0 → get_or depth p 0 < 8
parent_shallow depth own p w e h = (parent_passed depth own p w e h).1

pub passes_below : (depth : List ℕ) (own p : ℕ) → parent_test depth own p ≡ 0 → p < own
passes_below depth own p e = parent_below depth own p (parent_test depth own p) refl (omega (arith, e))

pub passes_shallow : (depth : List ℕ) (own p : ℕ) → parent_test depth own p ≡ 0 → get_or depth p 0 < 8
passes_shallow depth own p e = parent_shallow depth own p (parent_test depth own p) refl (omega (arith, e))

-- the test is the same on the depths and on the array that holds them
pub parent_padded : (ps : List Path) (depth : List ℕ) (own p : ℕ) → depth ≡ padded 64 (depths ps) → 1 + length ps ≡ own
    → parent_test (depths ps) (1 + length ps) p ≡ parent_test depth own p
unfolding parent_test
parent_padded ps depth own p e f = rw (e, f, padded_get 64 (depths ps) p)

pub paths_own : (parent label : List ℕ) (own : ℕ) → 1 ≤ own → 1 + length (paths_from parent label 1 (own - 1)) ≡ own
paths_own parent label own h = omega (arith, paths_length parent label 1 (own - 1))
