-- Laws of the order of the paths: what comes next, that each is one of the 64 paths, and that there are at most eight layers of these.
use Prim.Native.Nat.{ℕ, zero, suc, ◌*◌, ◌^◌, ◌≤◌, ◌<◌}
use mathlib.Core.Path.{◌≡◌, refl, ap, ap₂, ◌∙◌, subst}
use mathlib.Core.Logic.{◌⊎◌, inl, inr}
use mathlib.Core.List.{List, [], ◌∷◌, ◌++◌, Memᴰ}
use native.Mathlib.Omega.{arith}
use lib.ListN.{length, length-append}
use Rattle.files.specs.Sets.{with_path, lowest, without_lowest, union, members}
use Rattle.files.proofs.SetMembers.{size_le, size_members, members_take, members_of_zero, from_members}
use Rattle.reachable.specs.Sheet.{row, child_at}
use Rattle.theory.specs.Handed.{gather}
use Rattle.theory.proofs.HandedGather.{gather_end, gather_step}
use Rattle.handed.specs.Plan.{under_in, layers_in, order_in}
use Rattle.handed.specs.Order.{to_come, coming}
use Rattle.handed.specs.declared.order.Order.{Order}

module _ (sheet : List ℕ) where
  pub come_start : (first : ℕ) → first ≡ with_path 0 0 → to_come sheet 7 first 0 ≡ order_in sheet
  unfolding to_come order_in layers_in under_in
  come_start first e = rw e

  -- no path of this layer is to come
  pub come_down : (left less below : ℕ) → left ≡ suc less → to_come sheet left 0 below ≡ to_come sheet less below 0
  unfolding to_come layers_in under_in
  come_down left less below e =
      rw (e, members_of_zero)
      (ap (layers_in sheet (suc less)) (gather_end (λ c. row child_at sheet c) 64 below))

  none_under : under_in sheet 0 ≡ 0
  unfolding under_in
  none_under = gather_end (λ c. row child_at sheet c) 64 0

  no_layers : (left : ℕ) → layers_in sheet left 0 ≡ []
  unfolding layers_in
  no_layers zero = refl
  no_layers (suc left) = rw (members_of_zero, none_under) (no_layers left)

  pub come_none : (left below : ℕ) → (left ≡ 0) ⊎ (below ≡ 0) → to_come sheet left 0 below ≡ []
  unfolding to_come layers_in
  come_none left below (inl e) = rw (e, members_of_zero)
  come_none left below (inr e) =
      rw (e, members_of_zero) (ap (layers_in sheet left) (gather_end (λ c. row child_at sheet c) 64 0) ∙ no_layers left)

  -- one path comes
  pub come_next : (left layer below : ℕ) → 0 < layer → layer < 2 ^ 64
      → to_come sheet left layer below ≡ lowest layer ∷ to_come sheet left (without_lowest layer) (union below (row child_at sheet (lowest layer)))
  unfolding to_come
  come_next left layer below some fits =
      ap₂ (λ (l : List ℕ) (w : ℕ). l ++ layers_in sheet left w) (members_take layer some fits)
      (gather_step (λ c. row child_at sheet c) layer below some fits)

  pub come_on : (left layer below x next under joined : ℕ) → (layer ≡ 0 → ⊥) → layer < 2 ^ 64 → x ≡ lowest layer → next ≡ without_lowest layer
      → under ≡ row 1152 sheet x → joined ≡ union below under → to_come sheet left layer below ≡ x ∷ to_come sheet left next joined
  come_on left layer below x next under joined some fits e n u j = rw (j, u, n, e) (come_next left layer below (omega (arith, some)) fits)

-- ---- the paths that come are few, and each is one of the 64

abbrev Small : List ℕ → Type 0
Small [] = Unit {0}
Small (x ∷ rest) = (x < 64) × Small rest

small_each : (l : List ℕ) → ((x : ℕ) → Memᴰ x l → x < 64) → Small l
small_each [] h = tt
small_each (x ∷ l) h = (h x (Memᴰ.head refl), small_each l (λ y m. h y (Memᴰ.tail m)))

small_both : (l m : List ℕ) → Small l → Small m → Small (l ++ m)
small_both [] m h k = k
small_both (x ∷ l) m h k = (h.0, small_both l m h.1 k)

small_members : (w : ℕ) → Small (members w)
unfolding members
small_members w = small_each (members w) (λ x m. (from_members w 64 0 x m).2)

module _ (sheet : List ℕ) where
  small_layers : (left w : ℕ) → Small (layers_in sheet left w)
  unfolding layers_in
  small_layers zero w = tt
  small_layers (suc left) w = small_both (members w) (layers_in sheet left (under_in sheet w)) (small_members w) (small_layers left (under_in sheet w))

  few_layers : (left w : ℕ) → length (layers_in sheet left w) ≤ left * 64
  unfolding layers_in
  few_layers zero w = omega arith
  few_layers (suc left) w =
      omega (
        arith,
        length-append (members w) (layers_in sheet left (under_in sheet w)),
        size_members w,
        size_le w,
        few_layers left (under_in sheet w),
      )

  pub order_few : length (order_in sheet) ≤ 512
  unfolding order_in
  order_few = omega (arith, few_layers 8 (with_path 0 0))

pub come_small : (s : Order) {x : ℕ} {rest : List ℕ} → coming s ≡ x ∷ rest → x < 64
unfolding to_come
come_small s e =
    (subst Small e
    (small_both (members s.layer) (layers_in s.sheet.now s.left (gather (λ c. row child_at s.sheet.now c) 64 s.layer s.below)) (small_members s.layer)
    (small_layers s.sheet.now s.left (gather (λ c. row child_at s.sheet.now c) 64 s.layer s.below)))).0
