-- A pair is computed to be excluded exactly if it is, with the least rule and side 0 preferred.
use Prim.Native.Nat.{ℕ, ◌<◌}
use mathlib.Core.Path.{◌≡◌, refl, sym, subst}
use mathlib.Core.Logic.{◌⊎◌, inl, inr, ◌↔◌}
use mathlib.Core.Bool.{Bool, true, false, ◌&&◌, ◌||◌}
use mathlib.Core.List.{List}
use native.Mathlib.Omega.{arith}
use lib.Dec.{T, ltb→lt}
use lib.Ieee.Fits.{and_i, and_l, and_r}
use lib.ListN.{length}
use Rattle.files.specs.Table.{Rule}
use Rattle.documents.specs.Paths.{Below, context_of, belowb}
use Rattle.documents.proofs.Paths.{belowb_iff, context_of_context, context_is}
use Rattle.theory.specs.Walk.{PairBy, Pair}
use Rattle.theory.specs.Walk
use Rattle.theory.specs.Reachable.{Fits, reachb}
use Rattle.theory.specs.Decide.{Sided, straight, crossed, LeastPair, sides_from, pairb, pair_rule, is_pair, pair_side}
use Rattle.theory.proofs.Walks.{numbered_lt}
use Rattle.theory.proofs.Least.{least_passes, least_least, least_some}
use Rattle.theory.proofs.Decide.{AbsenceWith, absence_test, sides_iff, in_context}

-- one of two tests
pub either_iff : (a b : Bool) → T (a || b) ↔ (T a ⊎ T b)
either_iff true b = (λ t. inl tt, λ t. tt)
either_iff false b = (λ t. inr t, λ t. second t)
  where
    second : {A : Type 0} → ⊥ ⊎ A → A
    second (inl e) = absurd e
    second (inr h) = h

-- there is one least rule and side
pub least_pair_unique : {parent : ℕ → ℕ} {rules : List Rule} {c p q r s a b : ℕ} → LeastPair parent rules c p q r a
    → LeastPair parent rules c p q s b → (r ≡ s) × (a ≡ b)
least_pair_unique {parent} {rules} {c} {p} {q} {r} {s} {a} {b} u v =
    let e : r ≡ s = omega (arith, u.least_rule s (some_side v.by), v.least_rule r (some_side u.by)) in
    (e, same_side (subst (λ (z : ℕ). Sided parent rules c p q z a) e u.by) v.by)
  where
    some_side : {z t : ℕ} → Sided parent rules c p q z t → PairBy parent rules c p q z ⊎ PairBy parent rules c q p z
    some_side (straight h) = inl h
    some_side (crossed n h) = inr h

    same_side : {t w : ℕ} → Sided parent rules c p q s t → Sided parent rules c p q s w → t ≡ w
    same_side (straight h) (straight k) = refl
    same_side (straight h) (crossed n k) = absurd (n h)
    same_side (crossed n h) (straight k) = absurd (n k)
    same_side (crossed n h) (crossed m k) = refl

module _ {parent : ℕ → ℕ} {rules : List Rule} {count : ℕ} (fits : Fits parent rules count) where
  -- the test by rule number r
  pub pairb_iff : (c p q r : ℕ) → p < count → q < count → T (pairb parent rules count c p q r) ↔ PairBy parent rules c p q r
  unfolding pairb sides_from
  pairb_iff c p q r h k = (
    λ t. to ((absence_test rules r (λ ru. sides_from parent rules count ru c p q)).0 t),
    λ d. (absence_test rules r (λ ru. sides_from parent rules count ru c p q)).1 (back d),
  )
    where
      below : Rule → Bool
      below ru = belowb parent (context_of parent ru.left ru.right) c

      sides : Rule → Bool
      sides ru =
          reachb parent rules count (context_of parent ru.left ru.right) p ru.left
          && reachb parent rules count (context_of parent ru.left ru.right) q ru.right

      to : AbsenceWith rules r (λ ru. T (sides_from parent rules count ru c p q)) → PairBy parent rules c p q r
      to a =
          let s = (sides_iff fits r a.ru a.rule p q h k).0 (and_r (below a.ru) (sides a.ru) a.holds) in
          record {
            ru = a.ru;
            rule = a.rule;
            absence = a.absence;
            context = context_of parent a.ru.left a.ru.right;
            is_context = context_of_context fits.descending a.ru.left a.ru.right;
            prefix = (belowb_iff fits.descending (context_of parent a.ru.left a.ru.right) c).0
                (and_l (below a.ru) (sides a.ru) a.holds);
            left = s.left;
            right = s.right;
          }

      back : PairBy parent rules c p q r → AbsenceWith rules r (λ ru. T (sides_from parent rules count ru c p q))
      back d = record {
        ru = d.ru;
        rule = d.rule;
        absence = d.absence;
        holds = and_i (below d.ru) (sides d.ru)
            ((belowb_iff fits.descending (context_of parent d.ru.left d.ru.right) c).1
            (subst (λ (z : ℕ). Below parent z c) (sym (context_is fits.descending d.is_context)) d.prefix))
            ((sides_iff fits r d.ru d.rule p q h k).1
            (record { left = in_context fits d.is_context d.left; right = in_context fits d.is_context d.right }));
      }

  module _ (c p q : ℕ) (first : p < count) (second : q < count) where
    either_test : ℕ → Bool
    either_test r = pairb parent rules count c p q r || pairb parent rules count c q p r

    either_side : (r : ℕ) → T (either_test r) ↔ (PairBy parent rules c p q r ⊎ PairBy parent rules c q p r)
    unfolding either_test
    either_side r = (
      λ t. to ((either_iff (pairb parent rules count c p q r) (pairb parent rules count c q p r)).0 t),
      λ d. (either_iff (pairb parent rules count c p q r) (pairb parent rules count c q p r)).1 (back d),
    )
      where
        to : T (pairb parent rules count c p q r) ⊎ T (pairb parent rules count c q p r)
            → PairBy parent rules c p q r ⊎ PairBy parent rules c q p r
        to (inl t) = inl ((pairb_iff c p q r first second).0 t)
        to (inr t) = inr ((pairb_iff c q p r second first).0 t)

        back : PairBy parent rules c p q r ⊎ PairBy parent rules c q p r
            → T (pairb parent rules count c p q r) ⊎ T (pairb parent rules count c q p r)
        back (inl d) = inl ((pairb_iff c p q r first second).1 d)
        back (inr d) = inr ((pairb_iff c q p r second first).1 d)

    -- the side of a rule that excludes the pair
    side_of : (r : ℕ) → PairBy parent rules c p q r ⊎ PairBy parent rules c q p r
        → Sided parent rules c p q r (pair_side parent rules count c p q r)
    unfolding pair_side
    side_of r d = pick (pairb parent rules count c p q r) refl d
      where
        not_straight : pairb parent rules count c p q r ≡ false → PairBy parent rules c p q r → ⊥
        not_straight e h = rw e at ((pairb_iff c p q r first second).1 h)

        pick : (b : Bool) → pairb parent rules count c p q r ≡ b → PairBy parent rules c p q r ⊎ PairBy parent rules c q p r
            → Sided parent rules c p q r (pair_side parent rules count c p q r)
        pick true e k = rw (pair_side, e) (straight ((pairb_iff c p q r first second).0 (rw e tt)))
        pick false e (inl h) = absurd (not_straight e h)
        pick false e (inr h) = rw (pair_side, e) (crossed (not_straight e) h)

    rule_under : (r : ℕ) → PairBy parent rules c p q r ⊎ PairBy parent rules c q p r → r < length rules
    rule_under r (inl d) = numbered_lt d.rule
    rule_under r (inr d) = numbered_lt d.rule

    -- a pair that some rule excludes has its least rule and side, as computed
    pub pair_least : (r : ℕ) → PairBy parent rules c p q r ⊎ PairBy parent rules c q p r
        → LeastPair parent rules c p q (pair_rule parent rules count c p q)
        (pair_side parent rules count c p q (pair_rule parent rules count c p q))
    unfolding pair_rule either_test
    pair_least r d =
        let low = least_least either_test (length rules) r ((either_side r).1 d) in
        let under : pair_rule parent rules count c p q < length rules = omega (arith, rule_under r d) in
        record {
          by = side_of (pair_rule parent rules count c p q)
              ((either_side (pair_rule parent rules count c p q)).0 (least_passes either_test (length rules) under));
          least_rule = λ s e. least_least either_test (length rules) s ((either_side s).1 e);
        }

    -- the test decides pairs
    pub is_pair_iff : T (is_pair parent rules count c p q) ↔ Pair parent rules c p q
    unfolding is_pair pair_rule either_test
    is_pair_iff = (to, back)
      where
        found : (r : ℕ) → PairBy parent rules c p q r ⊎ PairBy parent rules c q p r → T (is_pair parent rules count c p q)
        found r d = least_some either_test (length rules) r (rule_under r d) ((either_side r).1 d)

        back : Pair parent rules c p q → T (is_pair parent rules count c p q)
        back (Walk.straight r d) = found r (inl d)
        back (Walk.crossed r d) = found r (inr d)

        pair_of : (r : ℕ) → PairBy parent rules c p q r ⊎ PairBy parent rules c q p r → Pair parent rules c p q
        pair_of r (inl d) = Walk.straight r d
        pair_of r (inr d) = Walk.crossed r d

        to : T (is_pair parent rules count c p q) → Pair parent rules c p q
        to t =
            let r = pair_rule parent rules count c p q in
            pair_of r ((either_side r).0 (least_passes either_test (length rules) (ltb→lt r (length rules) t)))
