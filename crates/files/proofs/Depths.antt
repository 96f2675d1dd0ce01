-- Laws of the paths of a table by their place, and of their depths: what is worked out path by path is the depth that a path has.
use Prim.Native.Nat.{ℕ, zero, suc, ◌+◌, ◌<◌}
use mathlib.Core.Path.{◌≡◌, refl, sym, ap, subst, ◌∙◌}
use mathlib.Core.List.{List, [], ◌∷◌, ◌++◌, map}
use native.Mathlib.Omega.{arith}
use lib.ListN.{length, get_or, length-append, get_or-append}
use lib.Seq.{get_or-append_seam}
use Rattle.files.specs.RuleFile.{deeper, depths}
use Rattle.files.specs.Table.{Path, labels, parent_in, Depth, root, under}

-- a path other than the root, with those before it and those after it
pub data At : List Path → ℕ → Type 0 where
  at : (before : List Path) (p : Path) (after : List Path) → At (before ++ (p ∷ after)) (suc (length before))

at_later : (q : Path) {ps : List Path} {x : ℕ} → At ps x → At (q ∷ ps) (suc x)
at_later q (at before p after) = at (q ∷ before) p after

pub at_place : (ps : List Path) (x : ℕ) → 0 < x → x < 1 + length ps → At ps x
at_place [] x pos h = absurd (omega arith)
at_place (p ∷ ps) zero pos h = absurd (omega arith)
at_place (p ∷ ps) (suc zero) pos h = at [] p ps
at_place (p ∷ ps) (suc (suc i)) pos h = at_later p (at_place ps (suc i) (omega arith) (omega arith))

module _ {A : Type 0} (f : A → ℕ) where
  map_there : (before : List A) (p : A) (after : List A) → get_or (map f (before ++ (p ∷ after))) (length before) 0 ≡ f p
  map_there [] p after = refl
  map_there (q ∷ before) p after = map_there before p after

  map_before : (v : ℕ) (before rest : List A) (x : ℕ) → x < 1 + length before
      → get_or (v ∷ map f (before ++ rest)) x 0 ≡ get_or (v ∷ map f before) x 0
  map_before v before rest zero h = refl
  map_before v [] rest (suc i) h = absurd (omega arith)
  map_before v (q ∷ before) rest (suc i) h = map_before (f q) before rest i (omega arith)

-- parent and label of a path there, and of those before it
module _ (before : List Path) (p : Path) (after : List Path) where
  pub parent_there : parent_in (before ++ (p ∷ after)) (suc (length before)) ≡ p.parent
  parent_there = map_there (λ (q : Path). q.parent) before p after

  pub parent_before : (x : ℕ) → x < 1 + length before → parent_in (before ++ (p ∷ after)) x ≡ parent_in before x
  parent_before x h = map_before (λ (q : Path). q.parent) 0 before (p ∷ after) x h

  pub label_there : (r : ℕ) → get_or (labels r (before ++ (p ∷ after))) (suc (length before)) 0 ≡ p.label
  label_there r = map_there (λ (q : Path). q.label) before p after

  pub label_before : (r x : ℕ) → x < 1 + length before
      → get_or (labels r (before ++ (p ∷ after))) x 0 ≡ get_or (labels r before) x 0
  label_before r x h = map_before (λ (q : Path). q.label) r before (p ∷ after) x h

deeper_append : (ds : List ℕ) (ps qs : List Path) → deeper ds (ps ++ qs) ≡ deeper (deeper ds ps) qs
unfolding deeper
deeper_append ds [] qs = refl
deeper_append ds (p ∷ ps) qs = deeper_append (ds ++ ((1 + get_or ds p.parent 0) ∷ [])) ps qs

deeper_keeps : (ds : List ℕ) (ps : List Path) (x : ℕ) → x < length ds → get_or (deeper ds ps) x 0 ≡ get_or ds x 0
unfolding deeper
deeper_keeps ds [] x h = refl
deeper_keeps ds (p ∷ ps) x h =
    let new : List ℕ = (1 + get_or ds p.parent 0) ∷ [] in
    deeper_keeps (ds ++ new) ps x (omega (arith, length-append ds new)) ∙ get_or-append ds new 0 x h

deeper_length : (ds : List ℕ) (ps : List Path) → length (deeper ds ps) ≡ length ds + length ps
unfolding deeper
deeper_length ds [] = omega arith
deeper_length ds (p ∷ ps) =
    let new : List ℕ = (1 + get_or ds p.parent 0) ∷ [] in
    omega (arith, deeper_length (ds ++ new) ps, length-append ds new)

pub depths_length : (ps : List Path) → length (depths ps) ≡ 1 + length ps
unfolding depths
depths_length ps = deeper_length (1 ∷ []) ps

-- the depth of one path more
pub depths_snoc : (ps : List Path) (p : Path) → depths (ps ++ (p ∷ [])) ≡ depths ps ++ ((1 + get_or (depths ps) p.parent 0) ∷ [])
unfolding depths deeper
depths_snoc ps p = deeper_append (1 ∷ []) ps (p ∷ [])

-- later paths change no depth
pub depths_before : (ps rest : List Path) (x : ℕ) → x < 1 + length ps → get_or (depths (ps ++ rest)) x 0 ≡ get_or (depths ps) x 0
unfolding depths
depths_before ps rest x h =
    ap (λ (ds : List ℕ). get_or ds x 0) (deeper_append (1 ∷ []) ps rest)
    ∙ deeper_keeps (deeper (1 ∷ []) ps) rest x (omega (arith, deeper_length (1 ∷ []) ps))

pub depths_there : (before : List Path) (p : Path) (after : List Path)
    → get_or (depths (before ++ (p ∷ after))) (suc (length before)) 0 ≡ 1 + get_or (depths before) p.parent 0
unfolding depths deeper
depths_there before p after =
    let ds : List ℕ = deeper (1 ∷ []) before in
    let v : ℕ = 1 + get_or ds p.parent 0 in
    let long : length ds ≡ suc (length before) = omega (arith, deeper_length (1 ∷ []) before) in
    ap (λ (l : List ℕ). get_or l (suc (length before)) 0) (deeper_append (1 ∷ []) before (p ∷ after))
    ∙ deeper_keeps (ds ++ (v ∷ [])) after (suc (length before)) (omega (arith, length-append ds (v ∷ [])))
    ∙ ap (λ (k : ℕ). get_or (ds ++ (v ∷ [])) k 0) (sym long)
    ∙ get_or-append_seam ds v [] 0

pub depths_root : (ps : List Path) → get_or (depths ps) 0 0 ≡ 1
unfolding depths
depths_root ps = deeper_keeps (1 ∷ []) ps 0 (omega arith)

-- every path but the root has a parent with a smaller number
abbrev pub Smaller : List Path → Type 0
Smaller ps = (x : ℕ) → 0 < x → x < 1 + length ps → parent_in ps x < x

module _ (ps : List Path) (smaller : Smaller ps) where
  depths_step : (x : ℕ) → 0 < x → x < 1 + length ps → get_or (depths ps) x 0 ≡ 1 + get_or (depths ps) (parent_in ps x) 0
  depths_step x pos h = by (at_place ps x pos h) (smaller x pos h)
    where
      by : {qs : List Path} {y : ℕ} → At qs y → parent_in qs y < y → get_or (depths qs) y 0 ≡ 1 + get_or (depths qs) (parent_in qs y) 0
      by (at before p after) s =
          let same = parent_there before p after in
          rw same
          (depths_there before p after
          ∙ ap (λ (d : ℕ). 1 + d) (sym (depths_before before (p ∷ after) p.parent (omega (arith, s)))))

  -- a path of the table has exactly the depth that is worked out
  pub depth_only : {x d : ℕ} → Depth ps x d → x < 1 + length ps → d ≡ get_or (depths ps) x 0
  depth_only root h = sym (depths_root ps)
  depth_only (under {x} {d} pos r) h =
      omega (arith, depth_only r (omega (arith, smaller x pos h)), depths_step x pos h)

  pub depth_is : (x : ℕ) → x < 1 + length ps → Depth ps x (get_or (depths ps) x 0)
  depth_is x h = upto (suc x) x (omega arith) h
    where
      next : (n x : ℕ) → ((y : ℕ) → y < n → y < 1 + length ps → Depth ps y (get_or (depths ps) y 0))
          → 0 < x → x < suc n → x < 1 + length ps → Depth ps x (get_or (depths ps) x 0)
      next n x below pos l h' =
          let deep : suc (get_or (depths ps) (parent_in ps x) 0) ≡ get_or (depths ps) x 0 = omega (arith, depths_step x pos h') in
          subst (Depth ps x) deep (under pos (below (parent_in ps x) (omega (arith, smaller x pos h')) (omega (arith, smaller x pos h'))))

      upto : (n x : ℕ) → x < n → x < 1 + length ps → Depth ps x (get_or (depths ps) x 0)
      upto zero x l h' = absurd (omega arith)
      upto (suc n) zero l h' = rw depths_root root
      upto (suc n) (suc x) l h' = next n (suc x) (upto n) (omega arith) l h'
