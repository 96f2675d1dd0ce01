-- On the sheet of a table the goals of parts are those of the theory: what a part's children have for goals.
use Prim.Native.Nat.{ℕ, zero, suc, ◌+◌, ◌*◌, ◌-◌, ◌^◌, ◌≤◌, ◌<◌}
use mathlib.Core.Path.{◌≡◌, refl, sym, ap, ◌∙◌, subst}
use mathlib.Core.Logic.{◌⊎◌, inl, inr}
use mathlib.Core.Bool.{Bool, true, false}
use mathlib.Core.List.{List}
use native.Mathlib.Omega.{arith}
use lib.Count.{count_leading_zeros, leading_top}
use lib.Dec.{eqb, lit<}
use lib.ListN.{get_or}
use borrow.Author.Tests.{eqb-false}
use Rattle.files.specs.Table.{Rule}
use Rattle.files.specs.Sets.{bit, Has, with_path, without_path, union, difference, lowest, without_lowest}
use Rattle.files.proofs.SetBits.{bit_cases, hasb_has, has_difference, has_without, bit_absent, without_absent, without_lt, difference_lt}
use Rattle.files.proofs.SetLowest.{has_lowest, has_without_lowest, without_lowest_lt}
use Rattle.files.proofs.SetMembers.{size_le}
use Rattle.documents.specs.Paths.{Below, StrictlyBelow, Descending, towards, depth_of}
use Rattle.documents.proofs.Paths.{below_le, below_antisym, strictly_lt, strictly_trans, towards_parent, towards_strictly, towards_below, towards_unique, depth_child}
use Rattle.theory.specs.Reachable.{Fits, reachable}
use Rattle.theory.specs.Handed.{highest, gather, reach_all, cover_each, fill_word, kid_word}
use Rattle.theory.proofs.Walks.{reach_end, walk_small}
use Rattle.theory.proofs.Reachable.{reachable_iff, reachable_small}
use Rattle.theory.proofs.HandedWords.{has_none, top_absent, gather_small, gather_iff, Given}
use Rattle.reachable.specs.Sheet.{row, above_at, slot_of, set_at}
use Rattle.reachable.specs.SheetWords.{PathWords, SetWords}
use Rattle.reachable.proofs.Filling.{depth_some}
use Rattle.handed.specs.Goals.{inside, inside_any, fill_in, own_of, kids_in}

-- the greatest path of a set that is not empty is in it
pub has_highest : (w : ℕ) → 0 < w → w < 2 ^ 64 → Has w (highest w)
unfolding highest
has_highest w p l =
    let t = leading_top 64 w p l in
    let e : t.0 ≡ 63 - count_leading_zeros 64 w = omega (arith, t.1) in
    subst (λ (x : ℕ). Has w x) e (pick t.0 t.2 t.3 (bit_cases w t.0))
  where
    pick : (j : ℕ) → 2 ^ j ≤ w → w < 2 ^ suc j → Has w j ⊎ (bit w j ≡ 0) → Has w j
    pick j h u (inl m) = m
    pick j h u (inr e) = absurd (omega (arith, h, top_absent w j u e))

-- gathering what is the same for every member
pub gather_same : (f g : ℕ → ℕ) (fuel w s : ℕ) → w < 2 ^ 64 → ((x : ℕ) → Has w x → f x ≡ g x) → gather f fuel w s ≡ gather g fuel w s
unfolding gather
gather_same f g zero w s l h = refl
gather_same f g (suc fuel) w s l h = pick (eqb w 0) refl (λ t k m. gather_same f g fuel (without_lowest w) t k m)
  where
    pick : (b : Bool) → eqb w 0 ≡ b
        → ((t : ℕ) → without_lowest w < 2 ^ 64 → ((x : ℕ) → Has (without_lowest w) x → f x ≡ g x)
        → gather f fuel (without_lowest w) t ≡ gather g fuel (without_lowest w) t)
        → gather f (suc fuel) w s ≡ gather g (suc fuel) w s
    pick true e again = rw (gather, e)
    pick false e again =
        let some : 0 < w = omega (arith, eqb-false w 0 e) in
        let one = h (lowest w) (has_lowest w some l) in
        rw (gather, e, one) (again (union s (g (lowest w))) (without_lowest_lt w l) (λ x m. h x ((has_without_lowest w x).0 m).1))

module _ {parent : ℕ → ℕ} {rules : List Rule} {count : ℕ} (fits : Fits parent rules count) (shallow : (x : ℕ) → x < count → depth_of parent x ≤ 8)
    {sheet : List ℕ} (p : PathWords parent count sheet) (s : SetWords parent rules count sheet) where
  desc : Descending parent
  desc = fits.descending

  -- the reachable sets
  abbrev pub R : ℕ → ℕ → ℕ
  R = reachable parent rules count

  slot_is : (c : ℕ) → c < count → slot_of sheet c ≡ depth_of parent c - 1
  unfolding slot_of
  slot_is c h = omega (arith, p.depth c h, shallow c h, depth_some parent desc c)

  pub inside_is : (c x : ℕ) → Below parent c x → x < count → inside sheet (slot_of sheet c) x ≡ R c x
  unfolding inside set_at
  inside_is c x b h =
      let t = hasb_has (row above_at sheet x) c ((p.above x c h).1 b) in
      let low : c < count = omega (arith, below_le desc b) in
      let z : x * 8 + slot_of sheet c ≡ 0 + (x * 8 + slot_of sheet c) = omega arith in
      ap (λ (i : ℕ). get_or sheet i 0) z ∙ (rw (set_at, t) at (s.reach c x low h))

  pub inside_next : (c x : ℕ) → StrictlyBelow parent c x → x < count → inside sheet (slot_of sheet c + 1) x ≡ R (towards parent c x) x
  inside_next c x b h =
      let k = towards parent c x in
      let low : k < count = omega (arith, below_le desc (towards_below desc b)) in
      let inner = strictly_lt desc (towards_strictly desc b) in
      let deep = depth_child desc k (omega (arith, inner)) ∙ ap (λ (z : ℕ). suc (depth_of parent z)) (towards_parent desc b) in
      let e : slot_of sheet c + 1 ≡ slot_of sheet k =
      omega (arith, slot_is c (omega (arith, inner, low)), slot_is k low, depth_some parent desc c, deep) in
      ap (λ (d : ℕ). inside sheet d x) e ∙ inside_is k x (towards_below desc b) h

  -- a set of paths of the table strictly below c
  abbrev pub Inner : (c w : ℕ) → Type 0
  Inner c w = (x : ℕ) → Has w x → StrictlyBelow parent c x × (x < count)

  fill_same : (c fuel left chosen : ℕ) → left < 2 ^ 64 → Inner c left
      → fill_in sheet (slot_of sheet c) fuel left chosen ≡ fill_word parent count R c fuel left chosen
  unfolding fill_in fill_word
  fill_same c zero left chosen l i = refl
  fill_same c (suc fuel) left chosen l i = pick (eqb left 0) refl (λ n m k j. fill_same c fuel n m k j)
    where
      pick : (b : Bool) → eqb left 0 ≡ b
          → ((n m : ℕ) → n < 2 ^ 64 → Inner c n → fill_in sheet (slot_of sheet c) fuel n m ≡ fill_word parent count R c fuel n m)
          → fill_in sheet (slot_of sheet c) (suc fuel) left chosen ≡ fill_word parent count R c (suc fuel) left chosen
      pick true e again = rw (fill_in, fill_word, e)
      pick false e again =
          let h = i (highest left) (has_highest left (omega (arith, eqb-false left 0 e)) l) in
          let u = R (towards parent c (highest left)) (highest left) in
          rw (fill_in, fill_word, e, inside_next c (highest left) h.0 h.1)
          (again (difference left u) (with_path chosen (highest left)) (difference_lt left u l) (λ x m. i x ((has_difference left u x).0 m).0))

  module _ (c goals top : ℕ) (hc : c < count) (small : goals < 2 ^ 64) (below : (g : ℕ) → Has goals g → Below parent c g × (g < count)) where
    any_is : inside_any sheet (slot_of sheet c) goals ≡ reach_all parent count R c goals
    unfolding inside_any reach_all
    any_is = gather_same (inside sheet (slot_of sheet c)) (λ g. R c g) 64 goals 0 small (λ g m. inside_is c g (below g m).0 (below g m).1)

    own_inner : Inner c (without_path goals c)
    own_inner x m =
        let r = (has_without goals c x).0 m in
        (record { below = (below x r.1).0; other = λ e. r.0 (sym e) }, (below x r.1).1)

    own_is : inside_any sheet (slot_of sheet c + 1) (without_path goals c) ≡ cover_each parent count R c (without_path goals c)
    unfolding inside_any cover_each
    own_is =
        gather_same (inside sheet (slot_of sheet c + 1)) (λ g. R (towards parent c g) g) 64 (without_path goals c) 0 (without_lt goals c small)
        (λ g m. inside_next c g (own_inner g m).0 (own_inner g m).1)

    reached_inner : Inner c (without_path (reach_all parent count R c goals) c)
    unfolding reach_all
    reached_inner x m =
        let r = (has_without (reach_all parent count R c goals) c x).0 m in
        out r.0 ((gather_iff (λ g. R c g) 64 goals 0 x small (size_le goals)).0 r.1)
      where
        out : (x ≡ c → ⊥) → Has 0 x ⊎ Given (λ g. R c g) goals x → StrictlyBelow parent c x × (x < count)
        out n (inl k) = absurd (has_none k)
        out n (inr g) =
            let w = (reachable_iff fits c g.source hc (below g.source g.member).1 x).0 g.has in
            (record { below = reach_end w; other = λ e. n (sym e) }, walk_small desc fits.rules_in (below g.source g.member).1 w.walk)

    reached_small : without_path (reach_all parent count R c goals) c < 2 ^ 64
    unfolding reach_all
    reached_small =
        without_lt (reach_all parent count R c goals) c
        (gather_small (λ g. R c g) 64 goals 0 small (lit< tt) (λ g m. reachable_small fits c g hc (below g m).1))

    left_inner : (u : ℕ) → Inner c (difference (without_path (reach_all parent count R c goals) c) u)
    left_inner u x m = reached_inner x ((has_difference (without_path (reach_all parent count R c goals) c) u x).0 m).0

    -- a part's one-goal children, where each goal has its own child
    pub kids_meeting : kids_in sheet (slot_of sheet c) c goals false ≡ kid_word parent count R c goals top false
    unfolding kids_in kid_word own_of
    kids_meeting =
        let u = cover_each parent count R c (without_path goals c) in
        rw (any_is, own_is)
        (fill_same c 64 (difference (without_path (reach_all parent count R c goals) c) u) (without_path goals c)
        (difference_lt (without_path (reach_all parent count R c goals) c) u reached_small) (left_inner u))

    -- and where one child has all goals
    module _ (under : StrictlyBelow parent c top) (on : (g : ℕ) → Has goals g → Below parent (towards parent c top) g) where
      not_here : without_path goals c ≡ goals
      not_here =
          without_absent goals c (bit_absent goals c (λ m. (towards_strictly desc under).other
          (below_antisym desc (towards_strictly desc under).below (on c m))))

      all_is : inside_any sheet (slot_of sheet c + 1) goals ≡ reach_all parent count R (towards parent c top) goals
      unfolding inside_any reach_all
      all_is =
          gather_same (inside sheet (slot_of sheet c + 1)) (λ g. R (towards parent c top) g) 64 goals 0 small
          (λ g m.
          let b = strictly_trans desc (towards_strictly desc under) (on g m) in
          inside_next c g b (below g m).1
          ∙ ap (λ (k : ℕ). R k g) (sym (towards_unique desc (towards_strictly desc under) (towards_parent desc under) (on g m))))

      pub kids_onward : kids_in sheet (slot_of sheet c) c goals true ≡ kid_word parent count R c goals top true
      unfolding kids_in kid_word own_of
      kids_onward =
          let u = reach_all parent count R (towards parent c top) goals in
          rw (any_is, not_here, all_is)
          (fill_same c 64 (difference (without_path (reach_all parent count R c goals) c) u) 0
          (difference_lt (without_path (reach_all parent count R c goals) c) u reached_small) (left_inner u))
