-- Refusals 15 to 19: each number's own test answers its refusal exactly when that row of 01's table says so.
use Prim.Native.Nat.{ℕ, zero, suc, ◌+◌, ◌^◌, ◌<◌, ◌≤◌}
use mathlib.Core.Path.{◌≡◌, refl, sym, ap, subst, ◌∙◌}
use mathlib.Core.Logic.{◌↔◌, ◌≢◌, ◌⊎◌, inl, inr, ⊎_elim}
use mathlib.Core.Bool.{Bool, true, false, cond, false≢true}
use mathlib.Core.List.Memᴰ
use mathlib.Core.List.{List, [], ◌∷◌, Memᴰ}
use native.Mathlib.Decide.{dec_lt, ℕ_discrete}
use native.Mathlib.Omega.{arith}
use lib.ListN.{length}
use lib.Dec.{eqb}
use borrow.Author.Tests.{lt-ltb, eq-eqb, ne_eqb, eqb-true}
use Rattle.files.specs.Rules.{add_all}
use Rattle.files.specs.Sets.{Has, with_path}
use Rattle.files.specs.RuleFile.{between}
use Rattle.files.proofs.Rows.{Row, row_between}
use Rattle.files.proofs.SetBits.{bit_of_zero, bit_pow_same, bit_pow_other, not_has, with_old, has_with}
use Rattle.documents.specs.PartList.{part_limit, Entry, listed, namers, entry_path, entry_kids, Namer, named_test, path_test}
use Rattle.documents.proofs.PartReader.{with_zero, named_none, named_root, named_good, named_else, path_zero, path_root, path_far}

-- 15: part count 0 or above 512
pub row_15 : (n : ℕ) → Row 15 (between 1 (part_limit + 1) 15 n) ((n ≡ 0) ⊎ (part_limit < n))
row_15 n =
    row_between 1 (part_limit + 1) 15 n ((n ≡ 0) ⊎ (part_limit < n)) (omega arith) (λ h. inl (omega arith)) (λ h. inr (omega arith))
    (λ h l. ⊎_elim (λ (e : n ≡ 0). omega arith) (λ (m : part_limit < n). omega arith))

-- 19: child number not above its parent part's or the previous child's, which is `last`, or not below the part count
pub row_19 : (last size x : ℕ) → Row 19 (between (last + 1) size 19 x) ((x ≤ last) ⊎ (size ≤ x))
row_19 last size x =
    row_between (last + 1) size 19 x ((x ≤ last) ⊎ (size ≤ x)) (omega arith) (λ h. inl (omega arith)) (λ h. inr h)
    (λ h l. ⊎_elim (λ (e : x ≤ last). omega arith) (λ (m : size ≤ x). omega arith))

-- ---- the namers of a part

pub listed_only : (k : ℕ) (ks : List ℕ) → listed k ks ≡ true → Memᴰ k ks
unfolding listed
listed_only k [] e = absurd (false≢true e)
listed_only k (x ∷ ks) e = by (eqb x k) refl e (listed_only k ks)
  where
    by : (t : Bool) → eqb x k ≡ t → cond t true (listed k ks) ≡ true → (listed k ks ≡ true → Memᴰ k ks) → Memᴰ k (x ∷ ks)
    by true f g again = Memᴰ.head (sym (eqb-true x k f))
    by false f g again = Memᴰ.tail (again g)

pub listed_if : {k : ℕ} {ks : List ℕ} → Memᴰ k ks → listed k ks ≡ true
unfolding listed
listed_if {k} (Memᴰ.head {x = x} e) = rw (eq-eqb x k (sym e))
listed_if {k} (Memᴰ.tail {x = x} {xs = ks} m) = by (eqb x k) (listed_if m)
  where
    by : (t : Bool) → listed k ks ≡ true → cond t true (listed k ks) ≡ true
    by true e = refl
    by false e = e

-- the path of a namer of part k
pub record NamerOn (es : List Entry) (k y : ℕ) : Type 0 where
  pub by : Namer es k
  pub on : entry_path es by.part ≡ y

namer_later : (e : Entry) (es : List Entry) (k y : ℕ) → NamerOn es k y → NamerOn (e ∷ es) k y
unfolding entry_path entry_kids
namer_later e es k y n =
    record { by = record { part = suc n.by.part; listed = omega (arith, n.by.listed); names = n.by.names }; on = n.on }

pub namers_only : (k : ℕ) (es : List Entry) (y : ℕ) → Memᴰ y (namers k es) → NamerOn es k y
unfolding namers entry_path entry_kids
namers_only k [] y m = absurd (Memᴰ.not-nil m)
namers_only k (e ∷ es) y m = by (listed k e.kids) refl m (namers_only k es y)
  where
    here : listed k e.kids ≡ true → y ≡ e.path → NamerOn (e ∷ es) k y
    here t f = record { by = record { part = 0; listed = omega arith; names = listed_only k e.kids t }; on = sym f }

    by : (t : Bool) → listed k e.kids ≡ t → Memᴰ y (cond t (e.path ∷ namers k es) (namers k es))
        → (Memᴰ y (namers k es) → NamerOn es k y) → NamerOn (e ∷ es) k y
    by true f n again = ⊎_elim (here f) (λ (l : Memᴰ y (namers k es)). namer_later e es k y (again l)) (Memᴰ.cases_cons n)
    by false f n again = namer_later e es k y (again n)

pub namers_if : (k : ℕ) (es : List Entry) (i : ℕ) → i < length es → Memᴰ k (entry_kids es i) → Memᴰ (entry_path es i) (namers k es)
unfolding namers entry_path entry_kids
namers_if k [] i h m = absurd (omega arith)
namers_if k (e ∷ es) zero h m = rw (listed_if m) (Memᴰ.head refl)
namers_if k (e ∷ es) (suc i) h m = by (listed k e.kids) (namers_if k es i (omega arith) m)
  where
    y : ℕ
    y = entry_path es i

    by : (t : Bool) → Memᴰ y (namers k es) → Memᴰ y (cond t (e.path ∷ namers k es) (namers k es))
    by true n = Memᴰ.tail n
    by false n = n

-- ---- the set of a list of paths

add_keeps : (w : ℕ) (xs : List ℕ) (y : ℕ) → ((x : ℕ) → Memᴰ x xs → x < 64) → Has w y → Has (add_all w xs) y
unfolding add_all
add_keeps w [] y small h = h
add_keeps w (x ∷ xs) y small h =
    add_keeps (with_path w x) xs y (λ z m. small z (Memᴰ.tail m)) ((has_with w x y (small x (Memᴰ.head refl))).1 (inr h))

add_has : (w : ℕ) (xs : List ℕ) (y : ℕ) → ((x : ℕ) → Memᴰ x xs → x < 64) → Memᴰ y xs → Has (add_all w xs) y
unfolding add_all
add_has w [] y small m = absurd (Memᴰ.not-nil m)
add_has w (x ∷ xs) y small m =
    ⊎_elim
    (λ (e : y ≡ x). add_keeps (with_path w x) xs y (λ z n. small z (Memᴰ.tail n))
    ((has_with w x y (small x (Memᴰ.head refl))).1 (inl e)))
    (add_has (with_path w x) xs y (λ z n. small z (Memᴰ.tail n))) (Memᴰ.cases_cons m)

-- paths that are all the same
add_same : (q : ℕ) (xs : List ℕ) → q < 64 → ((x : ℕ) → Memᴰ x xs → x ≡ q) → add_all (2 ^ q) xs ≡ 2 ^ q
unfolding add_all
add_same q [] h all = refl
add_same q (x ∷ xs) h all =
    let e : with_path (2 ^ q) x ≡ 2 ^ q = ap (with_path (2 ^ q)) (all x (Memᴰ.head refl))
    ∙ with_old (2 ^ q) q h (record { one = bit_pow_same q }) in
    ap (λ (w : ℕ). add_all w xs) e ∙ add_same q xs h (λ y m. all y (Memᴰ.tail m))

pub set_one : (q : ℕ) (xs : List ℕ) (y : ℕ) → q < 64 → Memᴰ y xs → ((x : ℕ) → Memᴰ x xs → x ≡ q) → add_all 0 xs ≡ 2 ^ q
unfolding add_all
set_one q [] y h m all = absurd (Memᴰ.not-nil m)
set_one q (x ∷ xs) y h m all =
    let e : with_path 0 x ≡ 2 ^ q = ap (with_path 0) (all x (Memᴰ.head refl)) ∙ with_zero q h in
    ap (λ (w : ℕ). add_all w xs) e ∙ add_same q xs h (λ z n. all z (Memᴰ.tail n))

pub set_none : (xs : List ℕ) → ((x : ℕ) → Memᴰ x xs → ⊥) → add_all 0 xs ≡ 0
unfolding add_all
set_none [] h = refl
set_none (x ∷ xs) h = absurd (h x (Memᴰ.head refl))

pub set_some : (xs : List ℕ) (y : ℕ) → ((x : ℕ) → Memᴰ x xs → x < 64) → Memᴰ y xs → add_all 0 xs ≡ 0 → ⊥
set_some xs y small m e = not_has (bit_of_zero y) (subst (λ (w : ℕ). Has w y) e (add_has 0 xs y small m))

pub set_all : (q : ℕ) (xs : List ℕ) (y : ℕ) → ((x : ℕ) → Memᴰ x xs → x < 64) → add_all 0 xs ≡ 2 ^ q → Memᴰ y xs → y ≡ q
set_all q xs y small e m = by (ℕ_discrete y q)
  where
    by : Dec (y ≡ q) → y ≡ q
    by (yes f) = f
    by (no n) = absurd (not_has (bit_pow_other q y n) (subst (λ (w : ℕ). Has w y) e (add_has 0 xs y small m)))

-- the members of a list are all q, or some is not
data Among (q : ℕ) (xs : List ℕ) : Type 0 where
  all : ((x : ℕ) → Memᴰ x xs → x ≡ q) → Among q xs
  other : (x : ℕ) → Memᴰ x xs → x ≢ q → Among q xs

among : (q : ℕ) (xs : List ℕ) → Among q xs
among q [] = all (λ x m. absurd (Memᴰ.not-nil m))
among q (x ∷ xs) = by (ℕ_discrete x q) (among q xs)
  where
    by : Dec (x ≡ q) → Among q xs → Among q (x ∷ xs)
    by (no n) r = other x (Memᴰ.head refl) n
    by (yes e) (other y m n) = other y (Memᴰ.tail m) n
    by (yes e) (all f) = all (λ y m. ⊎_elim (λ (g : y ≡ x). g ∙ e) (f y) (Memᴰ.cases_cons m))

data Members (xs : List ℕ) : Type 0 where
  empty : ((x : ℕ) → Memᴰ x xs → ⊥) → Members xs
  member : (x : ℕ) → Memᴰ x xs → Members xs

members : (xs : List ℕ) → Members xs
members [] = empty (λ x m. Memᴰ.not-nil m)
members (x ∷ xs) = member x (Memᴰ.head refl)

-- ---- the test of a part's path

-- some namer of part k is not on path q
pub record NamerElsewhere (es : List Entry) (k q : ℕ) : Type 0 where
  pub by : Namer es k
  pub other : entry_path es by.part ≢ q

-- all namers of part k are on path q
pub record NamersOn (es : List Entry) (k q : ℕ) : Type 0 where
  pub each : (i : ℕ) → i < length es → Memᴰ k (entry_kids es i) → entry_path es i ≡ q

module _ (parent : ℕ → ℕ) (count : ℕ) (es : List Entry) (p : ℕ) where
  -- the answer of the test of the next part's path
  abbrev pub answer : ℕ
  answer = path_test parent count (length es) (add_all 0 (namers (length es) es)) p

  -- what the answer says
  pub data PathIs : ℕ → Type 0 where
    first : length es ≡ 0 → p ≡ 0 → PathIs 0
    stray : length es ≡ 0 → p ≢ 0 → PathIs 16
    far : length es ≢ 0 → count ≤ p → PathIs 16
    alone : length es ≢ 0 → p < count → ¬ Namer es (length es) → PathIs 17
    root : length es ≢ 0 → p < count → Namer es (length es) → p ≡ 0 → PathIs 18
    elsewhere : length es ≢ 0 → p < count → NamerElsewhere es (length es) (parent p) → PathIs 18
    good : length es ≢ 0 → p < count → Namer es (length es) → p ≢ 0 → NamersOn es (length es) (parent p) → PathIs 0

  module _ (up : parent p < 64) (small : (i : ℕ) → i < length es → entry_path es i < 64) where
    xs : List ℕ
    xs = namers (length es) es

    xs_small : (x : ℕ) → Memᴰ x xs → x < 64
    unfolding xs
    xs_small x m =
        let o = namers_only (length es) es x m in
        subst (λ (z : ℕ). z < 64) o.on (small o.by.part o.by.listed)

    tested : length es ≢ 0 → p < count → named_test parent (add_all 0 xs) p ≡ answer
    unfolding path_test xs
    tested later h = sym (rw (ne_eqb (length es) 0 later, lt-ltb p count h))

    by_namer : length es ≢ 0 → p < count → p ≢ 0 → (x : ℕ) → Memᴰ x xs → Among (parent p) xs → PathIs answer
    unfolding xs
    by_namer later h inner x m (all f) =
        let o = namers_only (length es) es x m in
        subst PathIs (named_good parent (add_all 0 xs) p (set_some xs x xs_small m) inner (set_one (parent p) xs x up m f) ∙ tested later h)
        (good later h o.by inner (record { each = λ i l n. f (entry_path es i) (namers_if (length es) es i l n) }))
    by_namer later h inner x m (other y k n) =
        let o = namers_only (length es) es y k in
        subst PathIs
        (named_else parent (add_all 0 xs) p (set_some xs x xs_small m) inner (λ e. n (set_all (parent p) xs y xs_small e k))
        ∙ tested later h)
        (elsewhere later h (record { by = o.by; other = λ e. n (sym o.on ∙ e) }))

    by_set : length es ≢ 0 → p < count → Members xs → Dec (p ≡ 0) → PathIs answer
    unfolding xs
    by_set later h (empty f) d =
        subst PathIs (named_none parent (add_all 0 xs) p (set_none xs f) ∙ tested later h)
        (alone later h (λ a. f (entry_path es a.part) (namers_if (length es) es a.part a.listed a.names)))
    by_set later h (member x m) (yes e) =
        subst PathIs (named_root parent (add_all 0 xs) p (set_some xs x xs_small m) e ∙ tested later h)
        (root later h (namers_only (length es) es x m).by e)
    by_set later h (member x m) (no e) = by_namer later h e x m (among (parent p) xs)

    pub path_is : PathIs answer
    path_is = by (ℕ_discrete (length es) 0) (ℕ_discrete p 0) (dec_lt p count)
      where
        by : Dec (length es ≡ 0) → Dec (p ≡ 0) → Dec (p < count) → PathIs answer
        by (yes e) (yes f) d = subst PathIs (path_zero parent count (length es) _ p e f) (first e f)
        by (yes e) (no f) d = subst PathIs (path_root parent count (length es) _ p e f) (stray e f)
        by (no e) f (no h) = let l : count ≤ p = omega arith in subst PathIs (path_far parent count (length es) _ p e l) (far e l)
        by (no e) f (yes h) = by_set e h (members xs) f

    -- 16: part's path not in the table, or part 0 not on path 0
    pub row_16 : 0 < count → (answer ≡ 16) ↔ ((count ≤ p) ⊎ ((length es ≡ 0) × (p ≢ 0)))
    row_16 some = (only path_is, λ c. made path_is c)
      where
        only : {a : ℕ} → PathIs a → a ≡ 16 → (count ≤ p) ⊎ ((length es ≡ 0) × (p ≢ 0))
        only (first e f) g = absurd (omega arith)
        only (stray e f) g = inr (e, f)
        only (far e f) g = inl f
        only (alone e f h) g = absurd (omega arith)
        only (root e f h i) g = absurd (omega arith)
        only (elsewhere e f h) g = absurd (omega arith)
        only (good e f h i j) g = absurd (omega arith)

        clash : {a : ℕ} → length es ≢ 0 → p < count → (count ≤ p) ⊎ ((length es ≡ 0) × (p ≢ 0)) → a ≡ 16
        clash e f c = absurd (⊎_elim (λ (h : count ≤ p). omega arith) (λ (h : (length es ≡ 0) × (p ≢ 0)). e h.0) c)

        made : {a : ℕ} → PathIs a → (count ≤ p) ⊎ ((length es ≡ 0) × (p ≢ 0)) → a ≡ 16
        made (first e f) c = absurd (⊎_elim (λ (h : count ≤ p). omega arith) (λ (h : (length es ≡ 0) × (p ≢ 0)). h.1 f) c)
        made (stray e f) c = refl
        made (far e f) c = refl
        made (alone e f h) c = clash e f c
        made (root e f h i) c = clash e f c
        made (elsewhere e f h) c = clash e f c
        made (good e f h i j) c = clash e f c

    -- 17: a part after 0 that no earlier part names
    pub row_17 : (answer ≡ 17) ↔ ((0 < length es) × (p < count) × (¬ Namer es (length es)))
    row_17 = (only path_is, λ c. made path_is c)
      where
        only : {a : ℕ} → PathIs a → a ≡ 17 → (0 < length es) × (p < count) × (¬ Namer es (length es))
        only (first e f) g = absurd (omega arith)
        only (stray e f) g = absurd (omega arith)
        only (far e f) g = absurd (omega arith)
        only (alone e f h) g = (omega arith, f, h)
        only (root e f h i) g = absurd (omega arith)
        only (elsewhere e f h) g = absurd (omega arith)
        only (good e f h i j) g = absurd (omega arith)

        made : {a : ℕ} → PathIs a → (0 < length es) × (p < count) × (¬ Namer es (length es)) → a ≡ 17
        made (first e f) c = absurd (omega (arith, c.0))
        made (stray e f) c = absurd (omega (arith, c.0))
        made (far e f) c = absurd (omega (arith, c.1))
        made (alone e f h) c = refl
        made (root e f h i) c = absurd (c.2 h)
        made (elsewhere e f h) c = absurd (c.2 h.by)
        made (good e f h i j) c = absurd (c.2 h)

    -- 18: a part after 0 on path 0, or of which some namer is not on its path's parent
    pub row_18 : (answer ≡ 18)
        ↔ ((0 < length es) × (p < count) × Namer es (length es) × ((p ≡ 0) ⊎ NamerElsewhere es (length es) (parent p)))
    row_18 = (only path_is, λ c. made path_is c)
      where
        Bad : Type 0
        Bad = (0 < length es) × (p < count) × Namer es (length es) × ((p ≡ 0) ⊎ NamerElsewhere es (length es) (parent p))

        only : {a : ℕ} → PathIs a → a ≡ 18 → Bad
        only (first e f) g = absurd (omega arith)
        only (stray e f) g = absurd (omega arith)
        only (far e f) g = absurd (omega arith)
        only (alone e f h) g = absurd (omega arith)
        only (root e f h i) g = (omega arith, f, h, inl i)
        only (elsewhere e f h) g = (omega arith, f, h.by, inr h)
        only (good e f h i j) g = absurd (omega arith)

        fine : {a : ℕ} → p ≢ 0 → NamersOn es (length es) (parent p) → (p ≡ 0) ⊎ NamerElsewhere es (length es) (parent p) → a ≡ 18
        fine i j (inl e) = absurd (i e)
        fine i j (inr o) = absurd (o.other (j.each o.by.part o.by.listed o.by.names))

        made : {a : ℕ} → PathIs a → Bad → a ≡ 18
        made (first e f) c = absurd (omega (arith, c.0))
        made (stray e f) c = absurd (omega (arith, c.0))
        made (far e f) c = absurd (omega (arith, c.1))
        made (alone e f h) c = absurd (h c.2)
        made (root e f h i) c = refl
        made (elsewhere e f h) c = refl
        made (good e f h i j) c = fine i j c.3

    -- what passes: part 0 on path 0, or a later part that is on a path of the table and that fits all its namers
    pub passes_only : answer ≡ 0 → 0 < length es → (p < count) × Namer es (length es) × (p ≢ 0) × NamersOn es (length es) (parent p)
    passes_only e later = only path_is e
      where
        only : {a : ℕ} → PathIs a → a ≡ 0 → (p < count) × Namer es (length es) × (p ≢ 0) × NamersOn es (length es) (parent p)
        only (first e f) g = absurd (omega arith)
        only (stray e f) g = absurd (omega arith)
        only (far e f) g = absurd (omega arith)
        only (alone e f h) g = absurd (omega arith)
        only (root e f h i) g = absurd (omega arith)
        only (elsewhere e f h) g = absurd (omega arith)
        only (good e f h i j) g = (f, h, i, j)

    pub passes_first : answer ≡ 0 → length es ≡ 0 → p ≡ 0
    passes_first e none = only path_is e
      where
        only : {a : ℕ} → PathIs a → a ≡ 0 → p ≡ 0
        only (first e f) g = f
        only (stray e f) g = absurd (omega arith)
        only (far e f) g = absurd (omega arith)
        only (alone e f h) g = absurd (omega arith)
        only (root e f h i) g = absurd (omega arith)
        only (elsewhere e f h) g = absurd (omega arith)
        only (good e f h i j) g = absurd (e none)

    pub passes_if : p < count → Namer es (length es) → p ≢ 0 → NamersOn es (length es) (parent p) → answer ≡ 0
    passes_if h by inner on = only path_is
      where
        later : length es ≢ 0
        later e = omega (arith, by.listed)

        only : {a : ℕ} → PathIs a → a ≡ 0
        only (first e f) = refl
        only (stray e f) = absurd (later e)
        only (far e f) = absurd (omega arith)
        only (alone e f h) = absurd (h by)
        only (root e f h i) = absurd (inner i)
        only (elsewhere e f o) = absurd (o.other (on.each o.by.part o.by.listed o.by.names))
        only (good e f h i j) = refl
