-- Numbers and label sequences of a valid table are one-to-one, and below is having the other's sequence as a prefix.
use Prim.Native.Nat.{ℕ, zero, suc, ◌+◌, ◌<◌, ◌≤◌}
use mathlib.Core.Path.{◌≡◌, refl, sym, ap, ap₂, subst, ◌∙◌}
use mathlib.Core.Logic.{◌↔◌}
use mathlib.Core.List.{List, [], ◌∷◌, ◌++◌, append-nil, append_assoc}
use native.Mathlib.Decide.{dec_lt}
use native.Mathlib.Omega.{arith}
use lib.ListN.{length, length-append}
use Rattle.files.specs.Table.{RuleSet, parent_in, Valid}
use Rattle.documents.specs.Labels.{label_in, Spells, root, under, Prefix}
use Rattle.documents.specs.Paths.{Below, same, up}

-- ---- sequences

-- of two sequences that end alike the beginnings and the last labels are the same
snoc_same : (xs ys : List ℕ) (a b : ℕ) → xs ++ (a ∷ []) ≡ ys ++ (b ∷ []) → (xs ≡ ys) × (a ≡ b)
snoc_same [] [] a b e = (refl, cc)
snoc_same [] (y ∷ ys) a b e = absurd (omega (arith, ap length e, length-append ys (b ∷ [])))
snoc_same (x ∷ xs) [] a b e = absurd (omega (arith, ap length e, length-append xs (a ∷ [])))
snoc_same (x ∷ xs) (y ∷ ys) a b e =
    let first : x ≡ y = cc in
    let rest : xs ++ (a ∷ []) ≡ ys ++ (b ∷ []) = cc in
    let h = snoc_same xs ys a b rest in
    (ap₂ (λ (z : ℕ) (zs : List ℕ). z ∷ zs) first h.0, h.1)

-- a prefix of a sequence is the whole, or a prefix of what stands before its last label
data Cut (xs : List ℕ) (a : ℕ) (before : List ℕ) : Type 0 where
  whole : xs ++ (a ∷ []) ≡ before → Cut xs a before
  shorter : Prefix before xs → Cut xs a before

cut_longer : (x : ℕ) {xs before : List ℕ} {a : ℕ} (y : ℕ) → x ≡ y → Cut xs a before → Cut (x ∷ xs) a (y ∷ before)
cut_longer x y e (whole f) = whole (ap₂ (λ (z : ℕ) (zs : List ℕ). z ∷ zs) e f)
cut_longer x y e (shorter p) = shorter (record { rest = p.rest; joined = ap₂ (λ (z : ℕ) (zs : List ℕ). z ∷ zs) e p.joined })

prefix_cut : (xs before rest : List ℕ) (a : ℕ) → xs ++ (a ∷ []) ≡ before ++ rest → Cut xs a before
prefix_cut xs [] rest a e = shorter (record { rest = xs; joined = refl })
prefix_cut [] (y ∷ []) rest a e = whole (let z : a ≡ y = cc in ap (λ (k : ℕ). k ∷ []) z)
prefix_cut [] (y ∷ z ∷ before) rest a e = absurd (omega (arith, ap length e, length-append before rest))
prefix_cut (x ∷ xs) (y ∷ before) rest a e =
    let first : x ≡ y = cc in
    let more : xs ++ (a ∷ []) ≡ before ++ rest = cc in
    cut_longer x y first (prefix_cut xs before rest a more)

-- ---- a path's sequence

module _ {r : RuleSet} where
  spells_some : {x : ℕ} {ls : List ℕ} → Spells r x ls → 1 ≤ length ls
  spells_some root = omega arith
  spells_some (under {x} {above} h s) = omega (arith, length-append above (label_in r x ∷ []))

  -- a path spells one sequence at most
  pub spells_once : {x : ℕ} {ls ms : List ℕ} → Spells r x ls → Spells r x ms → ls ≡ ms
  spells_once root root = refl
  spells_once root (under h t) = absurd (omega arith)
  spells_once (under h s) root = absurd (omega arith)
  spells_once (under {x} h s) (under k t) = ap (λ (l : List ℕ). l ++ (label_in r x ∷ [])) (spells_once s t)

module _ (r : RuleSet) (v : Valid r) where
  -- x is a path of the table
  abbrev Listed : ℕ → Type 0
  Listed x = x < 1 + length r.paths

  abbrev parent : ℕ → ℕ
  parent = parent_in r.paths

  parent_listed : (x : ℕ) → 0 < x → Listed x → Listed (parent x)
  parent_listed x h l = omega (arith, v.smaller x h l)

  spelled : (fuel x : ℕ) → x < fuel → Listed x → (ls : List ℕ) × Spells r x ls
  spelled zero x h l = absurd (omega arith)
  spelled (suc fuel) zero h l = (label_in r 0 ∷ [], root)
  spelled (suc fuel) (suc x) h l =
      let above = spelled fuel (parent (suc x)) (omega (arith, v.smaller (suc x) (omega arith) l)) (parent_listed (suc x) (omega arith) l) in
      (above.0 ++ (label_in r (suc x) ∷ []), under {x = suc x} (omega arith) above.1)

  -- every path of the table spells a sequence
  pub path_spells : (x : ℕ) → Listed x → (ls : List ℕ) × Spells r x ls
  path_spells x l = spelled (suc x) x (omega arith) l

  -- two paths with one parent and one label are one
  same_child_lem : (x y : ℕ) → 0 < x → 0 < y → Listed x → Listed y → parent x ≡ parent y → label_in r x ≡ label_in r y → x ≡ y
  same_child_lem x y h k l m e f = by (dec_lt x y) (dec_lt y x)
    where
      by : Dec (x < y) → Dec (y < x) → x ≡ y
      by (yes a) b = absurd (v.distinct x y h a m e f)
      by (no a) (yes b) = absurd (v.distinct y x k b l (sym e) (sym f))
      by (no a) (no b) = omega arith

  spell_alike : {x y : ℕ} {ls ms : List ℕ} → Listed x → Listed y → Spells r x ls → Spells r y ms → ls ≡ ms → x ≡ y
  spell_alike l m root root e = refl
  spell_alike l m root (under {x = y} {above = above} k t) e =
      absurd (omega (arith, ap length e, length-append above (label_in r y ∷ []), spells_some t))
  spell_alike l m (under {x} {above} h s) root e =
      absurd (omega (arith, ap length e, length-append above (label_in r x ∷ []), spells_some s))
  spell_alike l m (under {x} {above} h s) (under {x = y} {above = over} k t) e =
      let c = snoc_same above over (label_in r x) (label_in r y) e in
      same_child_lem x y h k l m (spell_alike (parent_listed x h l) (parent_listed y k m) s t c.0) c.1

  -- two paths of the table that spell one sequence are one path
  pub spells_one_path : {x y : ℕ} {ls : List ℕ} → Listed x → Listed y → Spells r x ls → Spells r y ls → x ≡ y
  spells_one_path l m s t = spell_alike l m s t refl

  -- ---- below is a prefix

  below_prefix : {c x : ℕ} {ls ms : List ℕ} → Below parent c x → Spells r c ls → Spells r x ms → Prefix ls ms
  below_prefix {ls = ls} {ms} (same e) s t =
      record { rest = []; joined = spells_once t (subst (λ (z : ℕ). Spells r z ls) e s) ∙ sym (append-nil ls) }
  below_prefix (up b) s root = below_prefix b s root
  below_prefix {ls = ls} (up b) s (under {x} h t) =
      let p = below_prefix b s t in
      record {
        rest = p.rest ++ (label_in r x ∷ []);
        joined = ap (λ (l : List ℕ). l ++ (label_in r x ∷ [])) p.joined ∙ append_assoc ls p.rest (label_in r x ∷ []);
      }

  prefix_below : {c x : ℕ} {ls ms : List ℕ} (rest : List ℕ) → Listed c → Listed x → Spells r c ls → Spells r x ms → ms ≡ ls ++ rest → Below parent c x
  prefix_below {c} {ls = ls} rest l m s root e = by (prefix_cut [] ls rest (label_in r 0) e)
    where
      by : Cut [] (label_in r 0) ls → Below parent c 0
      by (whole f) = same (spell_alike l m s root (sym f))
      by (shorter p) = absurd (omega (arith, ap length p.joined, length-append ls p.rest, spells_some s))
  prefix_below {c} {ls = ls} rest l m s (under {x} {above} h t) e =
      by (prefix_cut above ls rest (label_in r x) e) (λ (p : Prefix ls above). prefix_below p.rest l (parent_listed x h m) s t p.joined)
    where
      by : Cut above (label_in r x) ls → (Prefix ls above → Below parent c (parent x)) → Below parent c x
      by (whole f) again = same (spell_alike l m s (under h t) (sym f))
      by (shorter p) again = up (again p)

  -- x is below c exactly if c's sequence is a prefix of x's
  pub below_exactly : {c x : ℕ} {ls ms : List ℕ} → Listed c → Listed x → Spells r c ls → Spells r x ms → Below parent c x ↔ Prefix ls ms
  below_exactly l m s t = (λ b. below_prefix b s t, λ p. prefix_below p.rest l m s t p.joined)
