-- Laws of a set's size and of the list of its members.
use Prim.Native.Nat.{ℕ, zero, suc, ◌+◌, ◌^◌, ◌≤◌, ◌<◌}
use mathlib.Core.Path.{◌≡◌, refl, sym, ap, ap₂, subst, ◌∙◌}
use mathlib.Core.Logic.{◌↔◌, ◌≢◌, ◌⊎◌, inl, inr, ⊎_elim}
use mathlib.Core.List.Memᴰ
use mathlib.Core.List.{List, [], ◌∷◌, ◌++◌, Memᴰ}
use native.Mathlib.Nat.{le_refl, le_of_eq, eq-or-lt_of_le, add-zero}
use native.Mathlib.Decide.{dec_lt, ℕ_discrete, le_ind}
use native.Mathlib.Omega.{arith}
use lib.ListN.{length}
use Rattle.files.specs.Sets.{bit, Has, with_path, lowest, without_path, without_lowest, size_below, size, keep, members_from, members, Ascending, none, next}
use Rattle.files.proofs.SetBits.{bit_small, bit_cases, bit_absent, not_has, bit_of_zero, bit_past, bit_with_same, bit_with_other, bit_without_same, bit_without_other, has_under}
use Rattle.files.proofs.SetLowest.{has_lowest, lowest_lt, bit_below_lowest, bit_without_lowest_same, bit_without_lowest_other}

-- ---- how many paths

pub size_below_zero : (w : ℕ) → size_below w 0 ≡ 0
unfolding size_below
size_below_zero w = refl

pub size_below_suc : (w i : ℕ) → size_below w (suc i) ≡ size_below w i + bit w i
unfolding size_below
size_below_suc w i = refl

pub size_below_all : (w : ℕ) → size_below w 64 ≡ size w
unfolding size
size_below_all w = refl

pub size_below_mono : (w i j : ℕ) → i ≤ j → size_below w i ≤ size_below w j
size_below_mono w i j h =
    le_ind (λ (m : ℕ). size_below w i ≤ size_below w m) (le_refl (size_below w i)) (λ m l e. omega (arith, size_below_suc w m)) j h

pub size_below_le : (w i : ℕ) → size_below w i ≤ i
size_below_le w zero = le_of_eq (size_below_zero w)
size_below_le w (suc i) = omega (arith, size_below_suc w i, size_below_le w i, bit_small w i)

-- the words agree below i, and so do the counts
pub size_below_agree : (v w i : ℕ) → ((j : ℕ) → j < i → bit v j ≡ bit w j) → size_below v i ≡ size_below w i
size_below_agree v w zero e = size_below_zero v ∙ sym (size_below_zero w)
size_below_agree v w (suc i) e =
    omega (arith, size_below_suc v i, size_below_suc w i, e i (omega arith), size_below_agree v w i (λ j h. e j (omega arith)))

pub size_of_zero : size 0 ≡ 0
unfolding size
size_of_zero = none_of_zero 64
  where
    none_of_zero : (i : ℕ) → size_below 0 i ≡ 0
    none_of_zero zero = size_below_zero 0
    none_of_zero (suc i) = omega (arith, size_below_suc 0 i, bit_of_zero i, none_of_zero i)

pub size_le : (w : ℕ) → size w ≤ 64
unfolding size
size_le w = size_below_le w 64

-- from 64 on every path of a word is counted
pub size_below_past : (w i : ℕ) → w < 2 ^ 64 → 64 ≤ i → size_below w i ≡ size w
unfolding size
size_below_past w i f h =
    le_ind (λ (m : ℕ). size_below w m ≡ size_below w 64) refl (λ m l e. omega (arith, size_below_suc w m, bit_past w 64 m f l)) i h

pub size_below_le_size : (w i : ℕ) → w < 2 ^ 64 → size_below w i ≤ size w
unfolding size
size_below_le_size w i f = go (dec_lt i 64)
  where
    go : Dec (i < 64) → size_below w i ≤ size_below w 64
    go (yes h) = size_below_mono w i 64 (omega arith)
    go (no n) = le_of_eq (size_below_past w i f (omega arith))

-- v has path i and w has not, and they agree at the others: v has one path more
size_below_more : (v w i k : ℕ) → ((j : ℕ) → j ≢ i → bit v j ≡ bit w j) → bit w i ≡ 0 → bit v i ≡ 1
    → i < k → size_below v k ≡ size_below w k + 1
size_below_more v w i k same out there h =
    le_ind (λ (m : ℕ). size_below v m ≡ size_below w m + 1) first
    (λ m l e. omega (arith, size_below_suc v m, size_below_suc w m, same m (omega arith))) k h
  where
    first : size_below v (suc i) ≡ size_below w (suc i) + 1
    first = omega (arith, size_below_suc v i, size_below_suc w i, size_below_agree v w i (λ j l. same j (omega arith)))

pub size_with : (w i : ℕ) → i < 64 → bit w i ≡ 0 → size (with_path w i) ≡ size w + 1
unfolding size
size_with w i h e = size_below_more (with_path w i) w i 64 (bit_with_other w i) e (bit_with_same w i h) h

pub size_without : (w i : ℕ) → i < 64 → Has w i → size (without_path w i) + 1 ≡ size w
unfolding size
size_without w i h m =
    sym (size_below_more w (without_path w i) i 64 (λ j n. sym (bit_without_other w i j n)) (bit_without_same w i) m.one h)

pub size_without_lowest : (w : ℕ) → 0 < w → w < 2 ^ 64 → size (without_lowest w) + 1 ≡ size w
unfolding without_lowest
size_without_lowest w p f = size_without w (lowest w) (lowest_lt w p f) (has_lowest w p f)

-- ---- the members

module _ (w : ℕ) where
  pub from_zero : (k : ℕ) → members_from 0 k w ≡ []
  unfolding members_from
  from_zero k = refl

  from_suc : (n k : ℕ) → members_from (suc n) k w ≡ keep (bit w k) k (members_from n (suc k) w)
  unfolding members_from
  from_suc n k = refl

  pub from_has : (n k : ℕ) → Has w k → members_from (suc n) k w ≡ k ∷ members_from n (suc k) w
  from_has n k h = from_suc n k ∙ ap (λ (d : ℕ). keep d k (members_from n (suc k) w)) h.one

  pub from_absent : (n k : ℕ) → bit w k ≡ 0 → members_from (suc n) k w ≡ members_from n (suc k) w
  from_absent n k e = from_suc n k ∙ ap (λ (d : ℕ). keep d k (members_from n (suc k) w)) e

  pub from_none : (n k : ℕ) → ((j : ℕ) → k ≤ j → bit w j ≡ 0) → members_from n k w ≡ []
  from_none zero k e = from_zero k
  from_none (suc n) k e = from_absent n k (e k (le_refl k)) ∙ from_none n (suc k) (λ j h. e j (omega arith))

  pub from_members : (n k x : ℕ) → Memᴰ x (members_from n k w) → Has w x × (k ≤ x) × (x < k + n)
  from_members zero k x m = absurd (Memᴰ.not-nil (subst (Memᴰ x) (from_zero k) m))
  from_members (suc n) k x m = go (from_members n (suc k) x) (bit_cases w k)
    where
      later : Has w x × (suc k ≤ x) × (x < suc k + n) → Has w x × (k ≤ x) × (x < k + suc n)
      later h = (h.0, omega (arith, h.1), omega (arith, h.2))

      go : (Memᴰ x (members_from n (suc k) w) → Has w x × (suc k ≤ x) × (x < suc k + n)) → Has w k ⊎ (bit w k ≡ 0)
          → Has w x × (k ≤ x) × (x < k + suc n)
      go ih (inl h) =
          ⊎_elim
          (λ (e : x ≡ k). (subst (Has w) (sym e) h, omega arith, omega arith))
          (λ (r : Memᴰ x (members_from n (suc k) w)). later (ih r))
          (Memᴰ.cases_cons (subst (Memᴰ x) (from_has n k h) m))
      go ih (inr e) = later (ih (subst (Memᴰ x) (from_absent n k e) m))

  pub members_from_lem : (n k x : ℕ) → Has w x → k ≤ x → x < k + n → Memᴰ x (members_from n k w)
  members_from_lem zero k x h l u = absurd (omega arith)
  members_from_lem (suc n) k x h l u = go (λ q. members_from_lem n (suc k) x h q (omega arith)) (ℕ_discrete x k) (bit_cases w k)
    where
      go : (suc k ≤ x → Memᴰ x (members_from n (suc k) w)) → Dec (x ≡ k) → Has w k ⊎ (bit w k ≡ 0)
          → Memᴰ x (members_from (suc n) k w)
      go ih (yes e) (inl p) = rw (from_has n k p) (Memᴰ.head e)
      go ih (yes e) (inr p) = absurd (not_has p (subst (Has w) e h))
      go ih (no q) (inl p) = rw (from_has n k p) (Memᴰ.tail (ih (omega arith)))
      go ih (no q) (inr p) = rw (from_absent n k p) (ih (omega arith))

  pub from_ascending : (n k : ℕ) → Ascending k (members_from n k w)
  from_ascending zero k = rw (from_zero k) none
  from_ascending (suc n) k = go (from_ascending n (suc k)) (bit_cases w k)
    where
      lower : {l : List ℕ} → Ascending (suc k) l → Ascending k l
      lower none = none
      lower (next {x = x} h r) = next {low = k} {x = x} (omega arith) r

      go : Ascending (suc k) (members_from n (suc k) w) → Has w k ⊎ (bit w k ≡ 0) → Ascending k (members_from (suc n) k w)
      go a (inl h) = rw (from_has n k h) (next (le_refl k) a)
      go a (inr e) = rw (from_absent n k e) (lower a)

  from_length : (n k : ℕ) → length (members_from n k w) + size_below w k ≡ size_below w (k + n)
  from_length zero k = rw (from_zero k) (omega (arith, ap (size_below w) (add-zero k)))
  from_length (suc n) k = go (from_length n (suc k)) (bit_cases w k)
    where
      there : size_below w (k + suc n) ≡ size_below w (suc k + n)
      there = ap (size_below w) (omega arith)

      go : length (members_from n (suc k) w) + size_below w (suc k) ≡ size_below w (suc k + n) → Has w k ⊎ (bit w k ≡ 0)
          → length (members_from (suc n) k w) + size_below w k ≡ size_below w (k + suc n)
      go ih (inl h) = rw (from_has n k h) (omega (arith, there, size_below_suc w k, h.one))
      go ih (inr e) = rw (from_absent n k e) (omega (arith, there, size_below_suc w k))

pub size_members : (w : ℕ) → size w ≡ length (members w)
unfolding size members
size_members w = omega (arith, from_length w 64 0, size_below_zero w)

pub mem_members : (w x : ℕ) → w < 2 ^ 64 → Memᴰ x (members w) ↔ Has w x
unfolding members
mem_members w x f =
    (λ m. (from_members w 64 0 x m).0, λ h. members_from_lem w 64 0 x h (omega arith) (has_under w 64 x f h))

pub members_ascending : (w : ℕ) → Ascending 0 (members w)
unfolding members
members_ascending w = from_ascending w 64 0

pub members_of_zero : members 0 ≡ []
unfolding members
members_of_zero = from_none 0 64 0 (λ j h. bit_of_zero j)

-- ---- the members of two sets that differ in one path

module _ (v w : ℕ) where
  pub from_agree : (n k : ℕ) → ((j : ℕ) → k ≤ j → bit v j ≡ bit w j) → members_from n k v ≡ members_from n k w
  from_agree zero k e = from_zero v k ∙ sym (from_zero w k)
  from_agree (suc n) k e =
      from_suc v n k ∙ ap₂ (λ (d : ℕ) (l : List ℕ). keep d k l) (e k (le_refl k)) (from_agree n (suc k) (λ j h. e j (omega arith)))
      ∙ sym (from_suc w n k)

  module _ (x : ℕ) (same : (j : ℕ) → j ≢ x → bit v j ≡ bit w j) (there : bit v x ≡ 1) where
    -- v has x, which is its least, and w is the rest
    from_take : bit w x ≡ 0 → ((j : ℕ) → j < x → bit v j ≡ 0) → (n k : ℕ) → k ≤ x → x < k + n
        → members_from n k v ≡ x ∷ members_from n k w
    from_take out low zero k l u = absurd (omega arith)
    from_take out low (suc n) k l u = go (λ q. from_take out low n (suc k) q (omega arith)) (eq-or-lt_of_le l)
      where
        go : (suc k ≤ x → members_from n (suc k) v ≡ x ∷ members_from n (suc k) w) → (k ≡ x) ⊎ (k < x)
            → members_from (suc n) k v ≡ x ∷ members_from (suc n) k w
        go ih (inl e) =
            from_has v n k (record { one = ap (bit v) e ∙ there })
            ∙ ap₂ (λ (a : ℕ) (l : List ℕ). a ∷ l) e (from_agree n (suc k) (λ j h. same j (omega arith)))
            ∙ ap (λ (l : List ℕ). x ∷ l) (sym (from_absent w n k (ap (bit w) e ∙ out)))
        go ih (inr h) =
            from_absent v n k (low k h) ∙ ih h
            ∙ ap (λ (l : List ℕ). x ∷ l) (sym (from_absent w n k (sym (same k (omega arith)) ∙ low k h)))

    -- v has x, which is its greatest, and w is the rest
    from_last : ((j : ℕ) → x ≤ j → bit w j ≡ 0) → (n k : ℕ) → k ≤ x → x < k + n → members_from n k v ≡ members_from n k w ++ (x ∷ [])
    from_last out zero k l u = absurd (omega arith)
    from_last out (suc n) k l u = go (λ q. from_last out n (suc k) q (omega arith)) (eq-or-lt_of_le l) (bit_cases w k)
      where
        go : (suc k ≤ x → members_from n (suc k) v ≡ members_from n (suc k) w ++ (x ∷ [])) → (k ≡ x) ⊎ (k < x) → Has w k ⊎ (bit w k ≡ 0)
            → members_from (suc n) k v ≡ members_from (suc n) k w ++ (x ∷ [])
        go ih (inl e) c =
            from_has v n k (record { one = ap (bit v) e ∙ there })
            ∙ ap₂ (λ (a : ℕ) (l : List ℕ). a ∷ l) e (from_none v n (suc k) (λ j h. same j (omega arith) ∙ out j (omega arith)))
            ∙ ap (λ (l : List ℕ). l ++ (x ∷ [])) (sym (from_none w (suc n) k (λ j h. out j (omega arith))))
        go ih (inr h) (inl m) =
            from_has v n k (record { one = same k (omega arith) ∙ m.one }) ∙ ap (λ (l : List ℕ). k ∷ l) (ih h)
            ∙ ap (λ (l : List ℕ). l ++ (x ∷ [])) (sym (from_has w n k m))
        go ih (inr h) (inr e) =
            from_absent v n k (same k (omega arith) ∙ e) ∙ ih h ∙ ap (λ (l : List ℕ). l ++ (x ∷ [])) (sym (from_absent w n k e))

-- a path above all the members comes last
pub members_with : (w x : ℕ) → x < 64 → ((j : ℕ) → Has w j → j < x) → members (with_path w x) ≡ members w ++ (x ∷ [])
unfolding members
members_with w x h above =
    from_last (with_path w x) w x (bit_with_other w x) (bit_with_same w x h)
    (λ j l. bit_absent w j (λ m. omega (arith, above j m))) 64 0 (omega arith) h

-- the least path, then the others: a loop that takes the least path each time goes through the members
pub members_take : (w : ℕ) → 0 < w → w < 2 ^ 64 → members w ≡ lowest w ∷ members (without_lowest w)
unfolding members
members_take w p f =
    from_take w (without_lowest w) (lowest w) (λ j n. sym (bit_without_lowest_other w j n)) (has_lowest w p f).one
    (bit_without_lowest_same w) (bit_below_lowest w) 64 0 (omega arith) (lowest_lt w p f)
