-- Laws of the goals of parts as the code works them out: children's goals, those of one goal, and the goals on every path.
use Prim.Native.Nat.{ℕ, suc, ◌+◌, ◌-◌, ◌^◌, ◌≤◌, ◌<◌}
use mathlib.Core.Path.{◌≡◌, refl, sym, ap, ap₂, ◌∙◌, subst}
use mathlib.Core.Logic.{◌⊎◌, inl, inr}
use mathlib.Core.Bool.{Bool, true, false}
use mathlib.Core.List.{List}
use native.Mathlib.Omega.{arith}
use native.Mathlib.Numerals.{add-one}
use lib.Bits.{or_zero_l, and_zero_r}
use lib.Dec.{lit<}
use lib.ListN.{get_or, set, replicate}
use borrow.Author.Tests.{eq-eqb, ne_eqb}
use Rattle.files.specs.Sets.{Has, hasb, members, join_words, with_path, without_path, union, difference, lowest, without_lowest}
use Rattle.files.proofs.SetBits.{same_sets, has_with, has_without, with_lt, without_lt, without_absent, bit_with_other, bit_of_zero, difference_lt}
use Rattle.files.proofs.SetLowest.{has_lowest}
use Rattle.reachable.specs.Sheet.{slot_of, paths_in}
use Rattle.theory.specs.Handed.{highest, gather}
use Rattle.handed.specs.Goals.{inside, inside_any, fill_in, own_of, kids_in, one_in, chain_in}
use Rattle.handed.specs.Plan.{whole_in, all_for, opened, goals_here, kids_here, plan_path, plan_paths}
use Rattle.theory.proofs.HandedGather.{gather_end, gather_step}
use Rattle.theory.proofs.HandedWords.{has_none, has_positive}
use Rattle.handed.proofs.Gathering.{joined_gathers}

-- ---- the goals of children

module _ (sheet : List ℕ) (d i left chosen v : ℕ) (inv : fill_in sheet d (64 - i) left chosen ≡ v) where
  module _ (more : i < 64) where
    opened_fill : fill_in sheet d (suc (64 - (i + 1))) left chosen ≡ v
    opened_fill = subst (λ (n : ℕ). fill_in sheet d n left chosen ≡ v) (omega arith) inv

    pub choose_none : left ≡ 0 → chosen ≡ v
    unfolding fill_in
    choose_none h = rw (fill_in, eq-eqb left 0 h) at opened_fill

    pub choose_on : (left ≡ 0 → ⊥) → (x u next r : ℕ) → x ≡ highest left → u ≡ inside sheet (d + 1) x → next ≡ difference left u
        → r ≡ with_path chosen x → fill_in sheet d (64 - (i + 1)) next r ≡ v
    unfolding fill_in
    choose_on h x u next r e f g k = rw (k, g, f, e) (rw (fill_in, ne_eqb left 0 h) at opened_fill)

  pub choose_end : 64 ≤ i → chosen ≡ v
  unfolding fill_in
  choose_end h = rw (let e : 64 - i ≡ 0 = omega arith in e) at inv

pub choose_fits : (left u next : ℕ) → left < 2 ^ 64 → next ≡ difference left u → next < 2 ^ 64
choose_fits left u next h e = omega (arith, difference_lt left u h)

pub ruleset choose_laws = (choose_none, choose_on, choose_end, choose_fits)

-- one goal
none_left : (w : ℕ) → w < 2 ^ 64 → ((j : ℕ) → Has w j → ⊥) → w ≡ 0
none_left w l h = same_sets w 0 l (lit< tt) (λ j k. (λ m. absurd (h j m), λ m. absurd (has_none m)))

module _ (g : ℕ) (low : g < 64) where
  one_lowest : lowest (with_path 0 g) ≡ g
  one_lowest = pick ((has_with 0 g (lowest (with_path 0 g)) low).0 (has_lowest (with_path 0 g) one_some (with_lt 0 g (lit< tt))))
    where
      one_some : 0 < with_path 0 g
      one_some = has_positive (with_path 0 g) g ((has_with 0 g g low).1 (inl refl))

      pick : (lowest (with_path 0 g) ≡ g) ⊎ Has 0 (lowest (with_path 0 g)) → lowest (with_path 0 g) ≡ g
      pick (inl e) = e
      pick (inr m) = absurd (has_none m)

  one_without : without_path (with_path 0 g) g ≡ 0
  one_without =
      none_left (without_path (with_path 0 g) g) (without_lt (with_path 0 g) g (with_lt 0 g (lit< tt)))
      (λ j m. let r = (has_without (with_path 0 g) g j).0 m in out j r.0 ((has_with 0 g j low).0 r.1))
    where
      out : (j : ℕ) → (j ≡ g → ⊥) → (j ≡ g) ⊎ Has 0 j → ⊥
      out j n (inl e) = n e
      out j n (inr m) = has_none m

  -- what one goal gives
  pub gather_one : (f : ℕ → ℕ) → gather f 64 (with_path 0 g) 0 ≡ f g
  unfolding union without_lowest
  gather_one f =
      gather_step f (with_path 0 g) 0 (has_positive (with_path 0 g) g ((has_with 0 g g low).1 (inl refl))) (with_lt 0 g (lit< tt))
      ∙ rw (one_lowest, one_without) (gather_end f 64 (union 0 (f g)) ∙ or_zero_l (f g))

any_one : (sheet : List ℕ) (d g : ℕ) → g < 64 → inside_any sheet d (with_path 0 g) ≡ inside sheet d g
unfolding inside_any
any_one sheet d g low = gather_one g low (inside sheet d)

difference_none : (w : ℕ) → difference w 0 ≡ w
unfolding difference
difference_none w = rw (and_zero_r w) (omega arith)

module _ (sheet : List ℕ) (d c g u reached : ℕ) (low : g < 64) (a : u ≡ inside sheet d g) (w : reached ≡ without_path u c) where
  reached_is : without_path (inside_any sheet d (with_path 0 g)) c ≡ reached
  reached_is = ap (λ (z : ℕ). without_path z c) (any_one sheet d g low ∙ sym a) ∙ sym w

  pub one_here : (r : ℕ) → g ≡ c → r ≡ fill_in sheet d 64 reached 0 → r ≡ one_in sheet d c g
  unfolding one_in kids_in own_of inside_any
  one_here r h e =
      let own : without_path (with_path 0 g) c ≡ 0 = ap (without_path (with_path 0 g)) (sym h) ∙ one_without g low in
      e ∙ ap₂ (fill_in sheet d 64) (sym (ap₂ difference reached_is (ap (inside_any sheet (d + 1)) own ∙ gather_end (inside sheet (d + 1)) 64 0) ∙ difference_none reached)) (sym own)

  pub one_lower : (covers left own r : ℕ) → (g ≡ c → ⊥) → covers ≡ inside sheet (d + 1) g → left ≡ difference reached covers → own ≡ with_path 0 g
      → r ≡ fill_in sheet d 64 left own → r ≡ one_in sheet d c g
  unfolding one_in kids_in own_of
  one_lower covers left own r h f l o e =
      let same : without_path (with_path 0 g) c ≡ with_path 0 g =
      without_absent (with_path 0 g) c (bit_with_other 0 g c (λ p. h (sym p)) ∙ bit_of_zero c) in
      let under : inside_any sheet (d + 1) (without_path (with_path 0 g) c) ≡ covers = ap (inside_any sheet (d + 1)) same ∙ any_one sheet (d + 1) g low ∙ sym f in
      e ∙ ap₂ (fill_in sheet d 64) (l ∙ sym (ap₂ difference reached_is under)) (o ∙ sym same)

pub ruleset one_kid_laws = (one_here, one_lower)

pub ones_start : (sheet : List ℕ) (d c here first : ℕ) → d ≡ slot_of sheet c
    → gather (one_in sheet d c) 64 here first ≡ gather (one_in sheet (slot_of sheet c) c) 64 here first
ones_start sheet d c here first e = rw e

-- ---- the goals on every path

module _ (sheet plan : List ℕ) (c here whole : ℕ) (t : Bool) (first r : ℕ) (fits : here < 2 ^ 64) (e : whole ≡ get_or plan 192 0) (is : t ≡ hasb whole c)
    (joined : r ≡ join_words (one_in sheet (slot_of sheet c) c) (members here) first) where
  test_is : t ≡ hasb (whole_in plan) c
  test_is = is ∙ ap (λ (z : ℕ). hasb z c) e

  gathered : r ≡ gather (one_in sheet (slot_of sheet c) c) 64 here first
  gathered = joined ∙ joined_gathers (one_in sheet (slot_of sheet c) c) here first fits

  pub kids_whole : t ≡ true → first ≡ all_for sheet plan c → r ≡ kids_here sheet plan c here
  unfolding kids_here
  kids_whole h f = rw (kids_here, ← test_is, h, ← f) gathered

  pub kids_plain : t ≡ false → first ≡ 0 → r ≡ kids_here sheet plan c here
  unfolding kids_here
  kids_plain h f = rw (kids_here, ← test_is, h, ← f) gathered

module _ (sheet plan : List ℕ) (c : ℕ) where
  pub path_planned : (here named : ℕ) → here ≡ goals_here sheet plan c → named ≡ kids_here sheet plan c here
      → set (set plan c here) (64 + c) named ≡ plan_path sheet plan c
  unfolding plan_path
  path_planned here named e f = rw (f, e)

module _ (sheet : List ℕ) (c : ℕ) (plan v : List ℕ) (inv : plan_paths sheet (paths_in sheet - c) c plan ≡ v) where
  pub paths_on : (count : ℕ) (next : List ℕ) → count ≡ paths_in sheet → c < count → next ≡ plan_path sheet plan c
      → plan_paths sheet (paths_in sheet - (c + 1)) (c + 1) next ≡ v
  unfolding plan_paths
  paths_on count next n h e =
      let less : paths_in sheet - c ≡ suc (paths_in sheet - (c + 1)) = omega (arith, n, h) in
      rw (e, add-one c) (rw (less, plan_paths, add-one c) at inv)

  pub paths_end : (count : ℕ) → count ≡ paths_in sheet → count ≤ c → plan ≡ v
  unfolding plan_paths
  paths_end count n h = rw (let e : paths_in sheet - c ≡ 0 = omega (arith, n, h) in e) at inv

pub paths_start : (sheet : List ℕ) (goals top whole : ℕ) (plan : List ℕ) → whole ≡ chain_in sheet goals top
    → plan ≡ set (set (set (replicate 195 0) 192 whole) 193 goals) 194 top
    → plan_paths sheet (paths_in sheet - 0) 0 plan ≡ plan_paths sheet (paths_in sheet) 0 (opened sheet goals top)
unfolding opened
paths_start sheet goals top whole plan e f = rw (f, e) (let z : paths_in sheet - 0 ≡ paths_in sheet = omega arith in rw z)

pub ruleset paths_laws = (paths_start, paths_on, paths_end)
