-- The set of a part in a valid list is what the part holds.
use Prim.Native.Nat.{ℕ, zero, suc, ◌+◌, ◌-◌, ◌<◌, ◌≤◌}
use mathlib.Core.Path.{◌≡◌, refl, sym, ap, subst, ◌∙◌}
use mathlib.Core.Logic.{◌↔◌, inl, inr, ⊎_elim}
use mathlib.Core.List.{List, [], ◌∷◌, Memᴰ}
use native.Mathlib.Omega.{arith}
use lib.ListN.{length, get_or, drop}
use lib.Seq.{get_or-drop}
use Rattle.files.specs.Sets.{Has, with_path}
use Rattle.files.proofs.SetBits.{bit_of_zero, not_has, has_union, has_with}
use Rattle.documents.specs.Parts.{PartHolds, own, kid}
use Rattle.documents.specs.PartList.{Entry, entry_path, entry_kids, ValidParts}
use Rattle.documents.specs.Checking.{held_by, held_from, held}
use Rattle.documents.proofs.PartTrees.{later}

pub held_length : (n : ℕ) (es : List Entry) → length (held_from n es) ≡ length es
unfolding held_from
held_length n [] = refl
held_length n (e ∷ es) = ap suc (held_length (n + 1) es)

-- the set of part j, from those of the parts after it
held_step : (n : ℕ) (es : List Entry) (j : ℕ) → j < length es
    → get_or (held_from n es) j 0 ≡ with_path (held_by (n + j + 1) (drop (suc j) (held_from n es)) (entry_kids es j)) (entry_path es j)
unfolding held_from entry_path entry_kids
held_step n [] j h = absurd (omega arith)
held_step n (e ∷ es) zero h =
    let z : n + 1 ≡ n + 0 + 1 = omega arith in
    ap (λ (k : ℕ). with_path (held_by k (held_from (n + 1) es) e.kids) e.path) z
held_step n (e ∷ es) (suc j) h =
    let z : n + 1 + j + 1 ≡ n + suc j + 1 = omega arith in
    held_step (n + 1) es j (omega arith)
    ∙ ap (λ (k : ℕ). with_path (held_by k (drop (suc j) (held_from (n + 1) es)) (entry_kids es j)) (entry_path es j)) z

-- a part of the list that holds y, by its set
record Holder (first : ℕ) (hs ks : List ℕ) (y : ℕ) : Type 0 where
  part : ℕ
  listed : Memᴰ part ks
  holds : Has (get_or hs (part - first) 0) y

holder_only : (first : ℕ) (hs ks : List ℕ) (y : ℕ) → Has (held_by first hs ks) y → Holder first hs ks y
unfolding held_by
holder_only first hs [] y h = absurd (not_has (bit_of_zero y) h)
holder_only first hs (k ∷ ks) y h =
    ⊎_elim (λ (a : Has (get_or hs (k - first) 0) y). record { part = k; listed = Memᴰ.head refl; holds = a })
    (λ (b : Has (held_by first hs ks) y). more (holder_only first hs ks y b)) ((has_union (get_or hs (k - first) 0) (held_by first hs ks) y).0 h)
  where
    more : Holder first hs ks y → Holder first hs (k ∷ ks) y
    more o = record { part = o.part; listed = Memᴰ.tail o.listed; holds = o.holds }

holder_if : (first : ℕ) (hs : List ℕ) {k : ℕ} {ks : List ℕ} (y : ℕ) → Memᴰ k ks → Has (get_or hs (k - first) 0) y
    → Has (held_by first hs ks) y
unfolding held_by
holder_if first hs {k = k} y (Memᴰ.head {x = x} {xs = ks} e) h =
    (has_union (get_or hs (x - first) 0) (held_by first hs ks) y).1 (inl (subst (λ (z : ℕ). Has (get_or hs (z - first) 0) y) e h))
holder_if first hs y (Memᴰ.tail {x = x} {xs = ks} m) h =
    (has_union (get_or hs (x - first) 0) (held_by first hs ks) y).1 (inr (holder_if first hs y m h))

module _ {parent : ℕ → ℕ} {count : ℕ} {es : List Entry} (valid : ValidParts parent count es) (table : count ≤ 64) where
  -- the set of part j
  set_of : ℕ → ℕ
  set_of j = get_or (held es) j 0

  set_is : (j : ℕ) → j < length es → set_of j ≡ with_path (held_by (0 + j + 1) (drop (suc j) (held es)) (entry_kids es j)) (entry_path es j)
  unfolding set_of held
  set_is j h = held_step 0 es j h

  -- a child's set, among those after its parent's
  child_set : (j k : ℕ) → j < k → get_or (drop (suc j) (held es)) (k - (0 + j + 1)) 0 ≡ set_of k
  unfolding set_of
  child_set j k h =
      let e : suc j + (k - (0 + j + 1)) ≡ k = omega arith in
      get_or-drop (suc j) (held es) (k - (0 + j + 1)) 0 ∙ ap (λ (i : ℕ). get_or (held es) i 0) e

  path_fits : (j : ℕ) → j < length es → entry_path es j < 64
  path_fits j h = omega (arith, valid.inside j h)

  holds_if : (j y : ℕ) → j < length es → PartHolds (entry_path es) (entry_kids es) j y → Has (set_of j) y
  holds_if j y h (own e) =
      subst (λ (w : ℕ). Has w y) (sym (set_is j h))
      ((has_with (held_by (0 + j + 1) (drop (suc j) (held es)) (entry_kids es j)) (entry_path es j) y (path_fits j h)).1 (inl (sym e)))
  holds_if j y h (kid k m a) =
      let b = holds_if k y (valid.below j k h m) a in
      subst (λ (w : ℕ). Has w y) (sym (set_is j h))
      ((has_with (held_by (0 + j + 1) (drop (suc j) (held es)) (entry_kids es j)) (entry_path es j) y (path_fits j h)).1
      (inr (holder_if (0 + j + 1) (drop (suc j) (held es)) y m (subst (λ (w : ℕ). Has w y) (sym (child_set j k (later valid j k h m))) b))))

  holds_only : (fuel j y : ℕ) → length es - j < fuel → j < length es → Has (set_of j) y → PartHolds (entry_path es) (entry_kids es) j y
  holds_only zero j y f h a = absurd (omega arith)
  holds_only (suc fuel) j y f h a =
      ⊎_elim (λ (e : y ≡ entry_path es j). own (sym e))
      (λ (b : Has (held_by (0 + j + 1) (drop (suc j) (held es)) (entry_kids es j)) y). by
      (holder_only (0 + j + 1) (drop (suc j) (held es)) (entry_kids es j) y b) (holds_only fuel))
      ((has_with (held_by (0 + j + 1) (drop (suc j) (held es)) (entry_kids es j)) (entry_path es j) y (path_fits j h)).0
      (subst (λ (w : ℕ). Has w y) (set_is j h) a))
    where
      by : Holder (0 + j + 1) (drop (suc j) (held es)) (entry_kids es j) y
          → ((k z : ℕ) → length es - k < fuel → k < length es → Has (set_of k) z → PartHolds (entry_path es) (entry_kids es) k z)
          → PartHolds (entry_path es) (entry_kids es) j y
      by o again =
          let l = later valid j o.part h o.listed in
          kid o.part o.listed
          (again o.part y (omega arith) (valid.below j o.part h o.listed)
          (subst (λ (w : ℕ). Has w y) (child_set j o.part l) o.holds))

  -- a path is in the set of a part exactly if the part holds it
  pub held_is : (j y : ℕ) → j < length es → Has (get_or (held es) j 0) y ↔ PartHolds (entry_path es) (entry_kids es) j y
  unfolding set_of
  held_is j y h = (holds_only (suc (length es - j)) j y (omega arith) h, holds_if j y h)
