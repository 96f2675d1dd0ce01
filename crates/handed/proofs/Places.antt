-- Laws of the parts' numbers as the code works them out: how many parts are on a path, and the number of the first one there.
use Prim.Native.Nat.{ℕ, ◌≤◌, ◌+◌}
use mathlib.Core.Path.{◌≡◌, sym, ◌∙◌}
use mathlib.Core.Bool.{Bool, true, false}
use mathlib.Core.List.{List, [], ◌∷◌}
use native.Mathlib.Omega.{arith}
use lib.ListN.{get_or, set}
use Rattle.files.specs.Sets.{bit, hasb}
use Rattle.std.specs.Int.{from_bool}
use Rattle.files.proofs.SetBits.{bit_small, hasb_true, hasb_false}
use Rattle.theory.specs.Handed.{parts_on}
use Rattle.handed.specs.Plan.{order_in, Placing, placing, place_one, place_each}

-- a test of a path counts as its bit
pub bit_is : (w x : ℕ) (t : Bool) (n : ℕ) → n ≡ from_bool t → t ≡ hasb w x → n ≡ bit w x
bit_is w x true n e is = e ∙ sym (hasb_true w x (sym is)).one
bit_is w x false n e is = e ∙ sym (hasb_false w x (sym is))

pub bit_one : (w x : ℕ) → bit w x ≤ 1
bit_one w x = omega (arith, bit_small w x)

pub ruleset bit_laws = (bit_is, bit_one)

-- ---- where the parts on each path begin

module _ (xs : List ℕ) (at : ℕ) (plan : List ℕ) (v : Placing) (inv : place_each xs (placing at plan) ≡ v) where
  pub place_on : (x p : ℕ) (rest : List ℕ) → xs ≡ x ∷ rest → p ≡ parts_on (get_or plan 192 0) plan x
      → place_each rest (placing (at + p) (set plan (128 + x) at)) ≡ v
  unfolding place_each place_one
  place_on x p rest e f = rw f (rw e at inv)

  pub place_end : xs ≡ [] → placing at plan ≡ v
  unfolding place_each
  place_end e = rw e at inv

pub place_start : (sheet xs : List ℕ) (p : Placing) → xs ≡ order_in sheet → place_each xs p ≡ place_each (order_in sheet) p
place_start sheet xs p e = rw e
