-- The computed reachable set is exactly what is reachable.
use Prim.Native.Nat.{ℕ, zero, suc, ◌+◌, ◌-◌, ◌^◌, ◌≤◌, ◌<◌}
use mathlib.Core.Path.{◌≡◌, refl, sym, subst}
use mathlib.Core.Logic.Iff
use mathlib.Core.Logic.{◌⊎◌, inl, inr, ◌↔◌}
use mathlib.Core.Bool.{Bool, true, false}
use mathlib.Core.List.{List}
use native.Mathlib.Omega.{arith}
use native.Mathlib.Nat.{add-zero}
use native.Mathlib.Decide.{ℕ_discrete}
use lib.Dec.{T, eqb, lit<}
use borrow.Author.Tests.{eqb-true, eqb-false}
use Rattle.files.specs.Table.{Rule}
use Rattle.files.specs.Sets.{bit, Has, hasb, with_path}
use Rattle.files.proofs.SetBits.{has_with, hasb_true, hasb_false, hasb_has, not_has, bit_of_zero, with_lt}
use Rattle.documents.specs.Paths.{Below, same, up, Descending}
use Rattle.documents.proofs.Paths.{below_step, below_le}
use Rattle.theory.specs.Walk.{Step, Walk, stay, step, Reach}
use Rattle.theory.specs.Reachable.{Fits, onward, join_children, subtree, one_step, settle, alone, reachable, reachb}
use Rattle.theory.proofs.Walks.{walk_start, reach_refl, reach_trans, reach_step, reach_start, reach_end, step_small, walk_small}
use Rattle.theory.proofs.OneStep.{Led, Stepped, ahead, StepLaw, onestep_law}

-- a set of the paths below c that have numbers below x
record Upto (parent : ℕ → ℕ) (c x w : ℕ) : Type 0 where
  small : w < 2 ^ 64
  under : (y : ℕ) → Has w y → y < x
  below : (y : ℕ) → Has w y → Below parent c y
  all : (y : ℕ) → y < x → Below parent c y → Has w y

module _ {parent : ℕ → ℕ} (desc : Descending parent) (c : ℕ) where
  joined_child : (x w : ℕ) → c < x → x < 64 → Upto parent c x w
      → Upto parent c (suc x) (elim (hasb w (parent x)) [ true ↦ with_path w x | false ↦ w ])
  joined_child x w l h u = pick (hasb w (parent x)) refl
    where
      cases : (y : ℕ) → (y ≡ x) ⊎ Has w y → (y < suc x) × ((y ≡ x) ⊎ Below parent c y)
      cases y (inl e) = (omega arith, inl e)
      cases y (inr k) = (omega (arith, u.under y k), inr (u.below y k))

      child_below : Has w (parent x) → (y : ℕ) → (y ≡ x) ⊎ Below parent c y → Below parent c y
      child_below m y (inl e) = subst (λ (z : ℕ). Below parent c z) (sym e) (up (u.below (parent x) m))
      child_below m y (inr k) = k

      old_or_new : (y : ℕ) → y < suc x → Below parent c y → Dec (y ≡ x) → (y ≡ x) ⊎ Has w y
      old_or_new y k b (yes e) = inl e
      old_or_new y k b (no n) = inr (u.all y (omega arith) b)

      never : bit w (parent x) ≡ 0 → (c ≡ x) ⊎ Below parent c (parent x) → ⊥
      never e (inl p) = omega arith
      never e (inr b) = not_has e (u.all (parent x) (desc.smaller x (omega arith)) b)

      still : bit w (parent x) ≡ 0 → (y : ℕ) → y < suc x → Below parent c y → Dec (y ≡ x) → Has w y
      still e y k b (yes p) = absurd (never e (below_step (subst (λ (z : ℕ). Below parent c z) p b)))
      still e y k b (no n) = u.all y (omega arith) b

      pick : (t : Bool) → hasb w (parent x) ≡ t
          → Upto parent c (suc x) (elim (hasb w (parent x)) [ true ↦ with_path w x | false ↦ w ])
      pick true e =
          rw e (record {
            small = with_lt w x u.small;
            under = λ y k. (cases y ((has_with w x y h).0 k)).0;
            below = λ y k. child_below (hasb_true w (parent x) e) y (cases y ((has_with w x y h).0 k)).1;
            all = λ y k b. (has_with w x y h).1 (old_or_new y k b (ℕ_discrete y x));
          })
      pick false e =
          rw e (record {
            small = u.small;
            under = λ y k. omega (arith, u.under y k);
            below = u.below;
            all = λ y k b. still (hasb_false w (parent x) e) y k b (ℕ_discrete y x);
          })

  children_joined : (left x w : ℕ) → c < x → x + left ≤ 64 → Upto parent c x w → Upto parent c (x + left) (join_children parent left x w)
  unfolding join_children
  children_joined zero x w l h u = rw add-zero u
  children_joined (suc left) x w l h u =
      let e : x + suc left ≡ suc x + left = omega arith in
      rw e (children_joined left (suc x) (elim (hasb w (parent x)) [ true ↦ with_path w x | false ↦ w ]) (omega arith) (omega arith)
      (joined_child x w l (omega arith) u))

  subtree_upto : (count : ℕ) → c < count → count ≤ 64 → Upto parent c count (subtree parent count c)
  unfolding subtree
  subtree_upto count l h =
      let e : suc c + (count - suc c) ≡ count = omega arith in
      rw e at (children_joined (count - suc c) (suc c) (with_path 0 c) (omega arith) (omega arith) start)
    where
      only : (y : ℕ) → Has (with_path 0 c) y → y ≡ c
      only y k = pick ((has_with 0 c y (omega arith)).0 k)
        where
          pick : (y ≡ c) ⊎ Has 0 y → y ≡ c
          pick (inl e) = e
          pick (inr m) = absurd (not_has (bit_of_zero y) m)

      start : Upto parent c (suc c) (with_path 0 c)
      start = record {
        small = with_lt 0 c (lit< tt);
        under = λ y k. omega (arith, only y k);
        below = λ y k. same (sym (only y k));
        all = λ y k b. (has_with 0 c y (omega arith)).1 (inl (omega (arith, below_le desc b)));
      }

  -- the computed subtree is the paths of the table below c
  pub subtree_iff : (count : ℕ) → c < count → count ≤ 64 → (y : ℕ) → Has (subtree parent count c) y ↔ ((y < count) × Below parent c y)
  subtree_iff count l h y =
      let u = subtree_upto count l h in (λ k. (u.under y k, u.below y k), λ k. u.all y k.0 k.1)

  pub subtree_small : (count : ℕ) → c < count → count ≤ 64 → subtree parent count c < 2 ^ 64
  subtree_small count l h = (subtree_upto count l h).small

-- the test of a set, as a type
pub T-hasb : (w i : ℕ) → T (hasb w i) ↔ Has w i
T-hasb w i = (λ t. pick (hasb w i) refl t, λ h. rw (hasb_has w i h) tt)
  where
    pick : (b : Bool) → hasb w i ≡ b → T (hasb w i) → Has w i
    pick true e t = hasb_true w i e
    pick false e t = absurd (rw e at t)

-- the set of x alone, if it is within
pub alone_iff : (within x y : ℕ) → x < 64 → Has (alone within x) y ↔ ((y ≡ x) × Has within x)
unfolding alone
alone_iff within x y l = pick (hasb within x) refl
  where
    only : (y ≡ x) ⊎ Has 0 y → y ≡ x
    only (inl e) = e
    only (inr h) = absurd (not_has (bit_of_zero y) h)

    pick : (t : Bool) → hasb within x ≡ t → Has (alone within x) y ↔ ((y ≡ x) × Has within x)
    pick true e =
        rw (alone, e) (λ h. (only ((has_with 0 x y l).0 h), hasb_true within x e), λ h. (has_with 0 x y l).1 (inl h.0))
    pick false e =
        rw (alone, e) (λ h. absurd (not_has (bit_of_zero y) h), λ h. absurd (not_has (hasb_false within x e) h.1))

pub alone_small : (within x : ℕ) → alone within x < 2 ^ 64
unfolding alone
alone_small within x = pick (hasb within x) refl
  where
    pick : (t : Bool) → hasb within x ≡ t → alone within x < 2 ^ 64
    pick true e = rw (alone, e) (with_lt 0 x (lit< tt))
    pick false e = rw (alone, e) (lit< tt)

-- what every pass keeps holds of the settled word, and that word is left unchanged by the pass
module _ (pass : ℕ → ℕ) (P : ℕ → Type 0) (keeps : (s : ℕ) → P s → P (pass s)) where
  settle_keeps : (fuel s : ℕ) → P s → P (settle pass fuel s)
  unfolding settle
  settle_keeps zero s h = h
  settle_keeps (suc fuel) s h = pick (eqb (pass s) s) refl (settle_keeps fuel (pass s) (keeps s h))
    where
      pick : (t : Bool) → eqb (pass s) s ≡ t → P (settle pass fuel (pass s)) → P (settle pass (suc fuel) s)
      pick true e again = rw (settle, e) h
      pick false e again = rw (settle, e) again

  settle_fixed : ((s : ℕ) → P s → s ≤ pass s) → ((s : ℕ) → P s → s < 2 ^ 64) → (fuel s : ℕ) → P s → 2 ^ 64 ≤ s + fuel
      → pass (settle pass fuel s) ≡ settle pass fuel s
  unfolding settle
  settle_fixed grows small zero s h l = absurd (omega (arith, small s h))
  settle_fixed grows small (suc fuel) s h l =
      pick (eqb (pass s) s) refl (λ n. settle_fixed grows small fuel (pass s) (keeps s h) (omega (arith, grows s h)))
    where
      pick : (t : Bool) → eqb (pass s) s ≡ t
          → ((pass s ≡ s → ⊥) → pass (settle pass fuel (pass s)) ≡ settle pass fuel (pass s))
          → pass (settle pass (suc fuel) s) ≡ settle pass (suc fuel) s
      pick true e again = rw (settle, e) (eqb-true (pass s) s e)
      pick false e again = rw (settle, e) (again (eqb-false (pass s) s e))

module _ {parent : ℕ → ℕ} {rules : List Rule} {count : ℕ} (fits : Fits parent rules count) where
  -- a step from a path of the table leads to one
  pub step_in_table : {x code y : ℕ} → x < count → Step parent rules x code y → y < count
  step_in_table = step_small fits.descending fits.rules_in

  -- a walk from a path of the table ends at one
  pub walk_in_table : {c x y : ℕ} {codes : List ℕ} → x < count → Walk parent rules c x codes y → y < count
  walk_in_table = walk_small fits.descending fits.rules_in

  module _ (c x : ℕ) (in_table : c < count) (given : x < count) where
    -- a set of reachable paths, x among them if it is below c
    record Found (s : ℕ) : Type 0 where
      small : s < 2 ^ 64
      reached : (y : ℕ) → Has s y → Reach parent rules c x y
      begun : Below parent c x → Has s x

    law : (s : ℕ) → Found s → StepLaw onward parent rules count (subtree parent count c) s
    law s f =
        onestep_law onward parent rules count (subtree parent count c) s fits.descending.root
        (subtree_small fits.descending c count in_table fits.few)
        (λ y h. ((subtree_iff fits.descending c count in_table fits.few y).0 h).0)
        (λ y h. walk_in_table given (f.reached y h).walk)

    pass : ℕ → ℕ
    pass = one_step onward parent rules count (subtree parent count c)

    passed : (s : ℕ) → Found s → Found (pass s)
    unfolding pass
    passed s f = record {
      small = (law s f).small f.small;
      reached = λ y h. reached_now y ((law s f).either y h);
      begun = λ b. (law s f).keeps x (f.begun b);
    }
      where
        on : (y z : ℕ) → Reach parent rules c x z → Stepped parent rules z y onward → Below parent c y → Reach parent rules c x y
        on y z a (ahead code st) b = reach_trans a (reach_step (reach_end a) st b)

        reached_now : (y : ℕ) → Has s y ⊎ Led (subtree parent count c) s (λ x y. Stepped parent rules x y onward) y
            → Reach parent rules c x y
        reached_now y (inl h) = f.reached y h
        reached_now y (inr l) =
            on y l.start (f.reached l.start l.member) l.edge
            ((subtree_iff fits.descending c count in_table fits.few y).0 l.inside).1

    begin : Found (alone (subtree parent count c) x)
    begin = record {
      small = alone_small (subtree parent count c) x;
      reached = λ y h. itself y (found y h);
      begun = λ b. (alone_iff (subtree parent count c) x x low).1 (refl, within.1 (given, b));
    }
      where
        low : x < 64
        low = omega (arith, fits.few)

        within : Has (subtree parent count c) x ↔ ((x < count) × Below parent c x)
        within = subtree_iff fits.descending c count in_table fits.few x

        found : (y : ℕ) → Has (alone (subtree parent count c) x) y → (y ≡ x) × Has (subtree parent count c) x
        found y h = (alone_iff (subtree parent count c) x y low).0 h

        itself : (y : ℕ) → (y ≡ x) × Has (subtree parent count c) x → Reach parent rules c x y
        itself y f = subst (λ (z : ℕ). Reach parent rules c x z) (sym f.0) (reach_refl (within.0 f.1).1)

    end : Found (reachable parent rules count c x)
    unfolding reachable pass
    end = settle_keeps pass Found passed (2 ^ 64) (alone (subtree parent count c) x) begin

    unchanged : pass (reachable parent rules count c x) ≡ reachable parent rules count c x
    unfolding reachable pass
    unchanged =
        settle_fixed pass Found passed (λ s f. (law s f).grows) (λ s f. f.small) (2 ^ 64) (alone (subtree parent count c) x) begin
        (omega arith)

    closed : {y z : ℕ} {codes : List ℕ} → Has (reachable parent rules count c x) y → Walk parent rules c y codes z
        → Has (reachable parent rules count c x) z
    unfolding pass
    closed h (stay b) = h
    closed {y} h (step {y = v} {code = code} b st w) =
        closed (subst (λ (s : ℕ). Has s v) unchanged
        ((law (reachable parent rules count c x) end).adds v (record {
          start = y;
          member = h;
          edge = ahead code st;
          inside = (subtree_iff fits.descending c count in_table fits.few v).1
              (step_in_table (walk_in_table given (end.reached y h).walk) st, walk_start w);
        }))) w

    -- the computed set is what is reachable
    pub reachable_iff : (y : ℕ) → Has (reachable parent rules count c x) y ↔ Reach parent rules c x y
    reachable_iff y = (end.reached y, λ a. closed (end.begun (reach_start a)) a.walk)

    pub reachable_small : reachable parent rules count c x < 2 ^ 64
    reachable_small = end.small

    -- the test decides reachable
    pub reachb_iff : (y : ℕ) → T (reachb parent rules count c x y) ↔ Reach parent rules c x y
    unfolding reachb
    reachb_iff y =
        Iff.trans (T-hasb (reachable parent rules count c x) y) (reachable_iff y)
