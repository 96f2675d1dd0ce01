-- Laws of a list in an array of fixed length, whose slots past the list hold 0.
use Prim.Native.Nat.{ℕ, zero, suc, ◌-◌, ◌<◌}
use mathlib.Core.Path.{◌≡◌, refl, sym, ap, ◌∙◌}
use mathlib.Core.List.{List, [], ◌∷◌, ◌++◌}
use native.Mathlib.Omega.{arith}
use lib.ListN.{length, get_or, set, replicate, length-append}
use lib.Seq.{append_snoc, set-append_seam}
use Rattle.files.specs.Rules.{padded}

pub zeros_get : (k x : ℕ) → ◌≡◌ {A = ℕ} (get_or (replicate k 0) x 0) 0
zeros_get zero x = refl
zeros_get (suc k) zero = refl
zeros_get (suc k) (suc x) = zeros_get k x

before_zeros : (l : List ℕ) (k x : ℕ) → get_or (l ++ replicate k 0) x 0 ≡ get_or l x 0
before_zeros [] k x = zeros_get k x
before_zeros (y ∷ l) k zero = refl
before_zeros (y ∷ l) k (suc x) = before_zeros l k x

-- every number is read back from the array, and 0 past the list
pub padded_get : (n : ℕ) (l : List ℕ) (x : ℕ) → get_or (padded n l) x 0 ≡ get_or l x 0
unfolding padded
padded_get n l x = before_zeros l (n - length l) x

-- the empty list leaves every slot 0
pub padded_none : (n : ℕ) → padded n [] ≡ replicate n 0
unfolding padded
padded_none n = let e : n - 0 ≡ n = omega arith in ap (λ (k : ℕ). replicate k 0) e

-- a store in the first free slot is one number more
pub padded_snoc : (n : ℕ) (l : List ℕ) (v : ℕ) → length l < n → set (padded n l) (length l) v ≡ padded n (l ++ (v ∷ []))
unfolding padded
padded_snoc n l v h =
    let free : n - length l ≡ suc (n - length (l ++ (v ∷ []))) = omega (arith, length-append l (v ∷ [])) in
    ap (λ (k : ℕ). set (l ++ replicate k 0) (length l) v) free
    ∙ set-append_seam l 0 (replicate (n - length (l ++ (v ∷ []))) 0) v
    ∙ sym (append_snoc l v (replicate (n - length (l ++ (v ∷ []))) 0))

-- the same where the slot is known by its number
pub padded_store : (n : ℕ) (l : List ℕ) (x v : ℕ) → length l ≡ x → x < n → set (padded n l) x v ≡ padded n (l ++ (v ∷ []))
padded_store n l x v e h = ap (λ (k : ℕ). set (padded n l) k v) (sym e) ∙ padded_snoc n l v (omega arith)
