-- Arrays stand for the paths and the rules that fill them.
use Prim.Native.Nat.{ℕ, zero, suc, ◌+◌, ◌-◌, ◌<◌, ◌≤◌, min}
use mathlib.Core.Path.{◌≡◌, refl, sym, ap, ap₂, ◌∙◌}
use mathlib.Core.Logic.{◌⊎◌, inl, inr, ⊎_elim}
use mathlib.Core.Bool.{Bool, true, false, cond}
use mathlib.Core.List.{List, [], ◌∷◌, ◌++◌, map}
use native.Mathlib.Omega.{arith}
use lib.ListN.{length, get_or, set, replicate}
use lib.Dec.{ltb}
use borrow.Author.Tests.{ltb-true, ltb-false}
use Rattle.files.specs.Table.{Path, Rule, parents, labels, parent_in}
use Rattle.files.specs.Rules.{paths_from, rules_from, padded, first_of, slots_from, parents_in}
use Rattle.files.proofs.Padded.{padded_get, padded_store}

pub map_snoc : {A B : Type 0} (f : A → B) (l : List A) (a : A) → map f (l ++ (a ∷ [])) ≡ map f l ++ (f a ∷ [])
map_snoc f [] a = refl
map_snoc f (x ∷ l) a = ap (λ (t : List _). f x ∷ t) (map_snoc f l a)

-- what an array has from place x on begins with place x, and goes on from the next
module _ (a : List ℕ) (x : ℕ) where
  at_first : {v : ℕ} → get_or a (x + 0) 0 ≡ v → get_or a x 0 ≡ v
  at_first e = let z : x ≡ x + 0 = omega arith in ap (λ (k : ℕ). get_or a k 0) z ∙ e

  at_next : (i : ℕ) {v : ℕ} → get_or a (x + suc i) 0 ≡ v → get_or a (x + 1 + i) 0 ≡ v
  at_next i e = let z : x + 1 + i ≡ x + suc i = omega arith in ap (λ (k : ℕ). get_or a k 0) z ∙ e

pub paths_back : (parent label : List ℕ) (x : ℕ) (ps : List Path)
    → ((i : ℕ) → get_or parent (x + i) 0 ≡ get_or (map (λ (p : Path). p.parent) ps) i 0)
    → ((i : ℕ) → get_or label (x + i) 0 ≡ get_or (map (λ (p : Path). p.label) ps) i 0)
    → paths_from parent label x (length ps) ≡ ps
unfolding paths_from
paths_back parent label x [] f g = refl
paths_back parent label x (p ∷ ps) f g =
    ap₂ (λ (q : Path) (qs : List Path). q ∷ qs) (λ i. record { parent = at_first parent x (f 0) i; label = at_first label x (g 0) i })
    (paths_back parent label (x + 1) ps (λ i. at_next parent x i (f (suc i))) (λ i. at_next label x i (g (suc i))))

pub rules_back : (kind left right : List ℕ) (x : ℕ) (rs : List Rule)
    → ((i : ℕ) → get_or kind (x + i) 0 ≡ get_or (map (λ (r : Rule). r.kind) rs) i 0)
    → ((i : ℕ) → get_or left (x + i) 0 ≡ get_or (map (λ (r : Rule). r.left) rs) i 0)
    → ((i : ℕ) → get_or right (x + i) 0 ≡ get_or (map (λ (r : Rule). r.right) rs) i 0)
    → rules_from kind left right x (length rs) ≡ rs
unfolding rules_from
rules_back kind left right x [] f g h = refl
rules_back kind left right x (r ∷ rs) f g h =
    ap₂ (λ (q : Rule) (qs : List Rule). q ∷ qs)
    (λ i. record { kind = at_first kind x (f 0) i; left = at_first left x (g 0) i; right = at_first right x (h 0) i })
    (rules_back kind left right (x + 1) rs (λ i. at_next kind x i (f (suc i))) (λ i. at_next left x i (g (suc i)))
    (λ i. at_next right x i (h (suc i))))

-- the arrays that paths fill stand for those paths
pub paths_padded : (parent label : List ℕ) (root : ℕ) (ps : List Path) → parent ≡ padded 64 (parents ps) → label ≡ padded 64 (labels root ps)
    → paths_from parent label 1 (length ps) ≡ ps
paths_padded parent label root ps e f =
    paths_back parent label 1 ps
    (λ i. let n : 1 + i ≡ suc i = omega arith in rw (e, n) (padded_get 64 (parents ps) (suc i)))
    (λ i. let n : 1 + i ≡ suc i = omega arith in rw (f, n) (padded_get 64 (labels root ps) (suc i)))

-- so many paths, and so many rules, are as many as they say
pub paths_length : (parent label : List ℕ) (x k : ℕ) → length (paths_from parent label x k) ≡ k
unfolding paths_from
paths_length parent label x zero = refl
paths_length parent label x (suc k) = ap suc (paths_length parent label (x + 1) k)

pub rules_length : (kind left right : List ℕ) (x k : ℕ) → length (rules_from kind left right x k) ≡ k
unfolding rules_from
rules_length kind left right x zero = refl
rules_length kind left right x (suc k) = ap suc (rules_length kind left right (x + 1) k)

-- ---- the parents in an array of their own

slots_parents : (parent label : List ℕ) (x k : ℕ) → slots_from parent x k ≡ map (λ (p : Path). p.parent) (paths_from parent label x k)
unfolding slots_from paths_from
slots_parents parent label x zero = refl
slots_parents parent label x (suc k) = ap (λ (l : List ℕ). get_or parent x 0 ∷ l) (slots_parents parent label (x + 1) k)

slots_length : (l : List ℕ) (x k : ℕ) → length (slots_from l x k) ≡ k
unfolding slots_from
slots_length l x zero = refl
slots_length l x (suc k) = ap suc (slots_length l (x + 1) k)

slots_snoc : (l : List ℕ) (x k : ℕ) → slots_from l x (suc k) ≡ slots_from l x k ++ (get_or l (x + k) 0 ∷ [])
unfolding slots_from
slots_snoc l x zero = let z : x ≡ x + 0 = omega arith in ap (λ (i : ℕ). get_or l i 0 ∷ []) z
slots_snoc l x (suc k) =
    let z : x + 1 + k ≡ x + suc k = omega arith in
    ap (λ (t : List ℕ). get_or l x 0 ∷ t) (slots_snoc l (x + 1) k ∙ ap (λ (i : ℕ). slots_from l (x + 1) k ++ (get_or l i 0 ∷ [])) z)

pub first_all : (count : ℕ) → count ≤ 64 → first_of count ≡ count
unfolding first_of
first_all count h = by (ltb count 64) refl
  where
    by : (t : Bool) → ltb count 64 ≡ t → cond (ltb count 64) count 64 ≡ count
    by true e = rw e
    by false e = rw e (omega (arith, ltb-false count 64 e))

-- in a table of at most 64 paths the array has each path's parent
pub parents_are : (parent label : List ℕ) (count x : ℕ) → count ≤ 64 → get_or (parents_in parent count) x 0 ≡ parent_in (paths_from parent label 1 (count - 1)) x
unfolding parents_in
parents_are parent label count x h =
    padded_get 64 (0 ∷ slots_from parent 1 (first_of count - 1)) x
    ∙ ap (λ (n : ℕ). get_or (0 ∷ slots_from parent 1 (n - 1)) x 0) (first_all count h)
    ∙ ap (λ (l : List ℕ). get_or (0 ∷ l) x 0) (slots_parents parent label 1 (count - 1))

-- the loop that fills it
pub record ParentsSoFar (parent : List ℕ) (last : ℕ) (clean : List ℕ) (x : ℕ) : Type 0 where
  pub some : 1 ≤ x
  pub filled : clean ≡ padded 64 (0 ∷ slots_from parent 1 (x - 1))
  pub most : (x ≤ last) ⊎ ((x ≡ 1) × (last ≤ 1))

pub parents_start : (parent : List ℕ) (last : ℕ) → ParentsSoFar parent last (replicate 64 0) 1
unfolding padded slots_from
parents_start parent last = record { some = omega arith; filled = refl; most = by (ltb last 1) refl }
  where
    by : (t : Bool) → ltb last 1 ≡ t → (1 ≤ last) ⊎ ((◌≡◌ {A = ℕ} 1 1) × (last ≤ 1))
    by true e = inr (refl, omega (arith, ltb-true last 1 e))
    by false e = inl (ltb-false last 1 e)

module _ (parent : List ℕ) (last : ℕ) (clean : List ℕ) (x : ℕ) (inv : ParentsSoFar parent last clean x) where
  pub parents_more : x < last → last ≤ 64 → ParentsSoFar parent last (set clean x (get_or parent x 0)) (x + 1)
  parents_more h few =
      let here : 1 + (x - 1) ≡ x = omega (arith, inv.some) in
      let next : x + 1 - 1 ≡ suc (x - 1) = omega (arith, inv.some) in
      record {
        some = omega arith;
        filled =
            ap (λ (l : List ℕ). set l x (get_or parent x 0)) inv.filled
            ∙ padded_store 64 (0 ∷ slots_from parent 1 (x - 1)) x (get_or parent x 0) (omega (arith, slots_length parent 1 (x - 1), inv.some)) (omega arith)
            ∙ ap (λ (l : List ℕ). padded 64 (0 ∷ l)) (ap (λ (i : ℕ). slots_from parent 1 (x - 1) ++ (get_or parent i 0 ∷ [])) (sym here) ∙ sym (slots_snoc parent 1 (x - 1)) ∙ ap (slots_from parent 1) (sym next));
        most = inl (omega arith);
      }

  pub parents_end : (count : ℕ) → last ≡ first_of count → last ≤ x → clean ≡ parents_in parent count
  unfolding parents_in
  parents_end count e h =
      let same : x - 1 ≡ first_of count - 1 = ⊎_elim (λ (m : x ≤ last). omega arith) (λ (m : (x ≡ 1) × (last ≤ 1)). omega arith) inv.most in
      inv.filled ∙ ap (λ (n : ℕ). padded 64 (0 ∷ slots_from parent 1 n)) same

pub first_min : (count last : ℕ) → last ≡ min count 64 → last ≡ first_of count
unfolding first_of
first_min count last e = by (ltb count 64) refl
  where
    by : (t : Bool) → ltb count 64 ≡ t → last ≡ cond (ltb count 64) count 64
    by true f = rw f (let h : count < 64 = ltb-true count 64 f in omega arith)
    by false f = rw f (let h : 64 ≤ count = ltb-false count 64 f in omega arith)

pub ruleset parents_laws = (parents_start, parents_more, parents_end, first_min)
