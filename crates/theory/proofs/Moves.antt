-- The least move: where some step leads from x into a set, it is one with the least code.
use Prim.Native.Nat.{ℕ, suc, ◌+◌, ◌*◌, ◌≤◌, ◌<◌}
use mathlib.Core.Path.{◌≡◌, refl, sym, ◌∙◌}
use mathlib.Core.Bool.{Bool, true, false, ◌&&◌, and-eq-true_iff, true≢false}
use mathlib.Core.List.{List, [], ◌∷◌}
use native.Mathlib.Omega.{arith}
use lib.Dec.{eqb, ltb}
use borrow.Author.Tests.{lt-ltb, ltb-true, eq-eqb, eqb-true}
use Rattle.files.specs.Table.{Rule, Numbered, first, later}
use Rattle.files.specs.Sets.{Has, hasb}
use Rattle.files.proofs.SetBits.{hasb_true, hasb_has}
use Rattle.theory.specs.Walk.{Step, climb, along, against}
use Rattle.theory.specs.Reachable.{goes_along, goes_against}
use Rattle.theory.specs.Search.{Move, rule_move, least_move}
use Rattle.theory.proofs.Walks.{numbered_lt}
use Rattle.theory.proofs.OneStep.{along_kind, kind_along, against_kind, kind_against}

-- a step by one of the rules, which are numbered from r
data RuleStep (rules : List Rule) (r x code y : ℕ) : Type 0 where
  right_of : (i : ℕ) (ru : Rule) → Numbered rules i ru → goes_along ru ≡ true → code ≡ 2 * (r + i) + 1
      → ru.left ≡ x → ru.right ≡ y → RuleStep rules r x code y
  left_of : (i : ℕ) (ru : Rule) → Numbered rules i ru → goes_against ru ≡ true → code ≡ 2 * (r + i) + 2
      → ru.right ≡ x → ru.left ≡ y → RuleStep rules r x code y

-- a move that leads into the set s by the least code of all steps that do
pub record Least (Steps : ℕ → ℕ → Type 0) (s : ℕ) (m : Move) : Type 0 where
  pub taken : Steps m.code m.to
  pub into : Has s m.to
  pub least : (code y : ℕ) → Steps code y → Has s y → m.code ≤ code

-- three tests pass together
tests : (a : Bool) (p q s y : ℕ) → a ≡ true → p ≡ q → Has s y → (a && eqb p q && hasb s y) ≡ true
tests a p q s y h e m = rw (h, eq-eqb p q e, hasb_has s y m)

record Tests (a : Bool) (p q s y : ℕ) : Type 0 where
  passes : a ≡ true
  equal : p ≡ q
  member : Has s y

tested : (a : Bool) (p q s y : ℕ) → (a && eqb p q && hasb s y) ≡ true → Tests a p q s y
tested a p q s y e =
    let u = (and-eq-true_iff (a && eqb p q) (hasb s y)).0 e in
    let v = (and-eq-true_iff a (eqb p q)).0 u.0 in
    record { passes = v.0; equal = eqb-true p q v.1; member = hasb_true s y u.1 }

-- a test that failed refutes that they pass together
untested : (a : Bool) (p q s y : ℕ) → (a && eqb p q && hasb s y) ≡ false → a ≡ true → p ≡ q → Has s y → ⊥
untested a p q s y f h e m = true≢false (sym (tests a p q s y h e m) ∙ f)

module _ (x s : ℕ) where
  -- a step by the rules from the second on
  rule_later : {ru : Rule} {rest : List Rule} {r code y : ℕ} → RuleStep rest (suc r) x code y → RuleStep (ru ∷ rest) r x code y
  rule_later (right_of i u n g e a b) = right_of (suc i) u (later n) g (omega arith) a b
  rule_later (left_of i u n g e a b) = left_of (suc i) u (later n) g (omega arith) a b

  -- a step by the first rule, or by the rules from the second on
  data Split (ru : Rule) (rest : List Rule) (r code y : ℕ) : Type 0 where
    straight : goes_along ru ≡ true → code ≡ 2 * r + 1 → ru.left ≡ x → ru.right ≡ y → Split ru rest r code y
    crossed : goes_against ru ≡ true → code ≡ 2 * r + 2 → ru.right ≡ x → ru.left ≡ y → Split ru rest r code y
    beyond : RuleStep rest (suc r) x code y → Split ru rest r code y

  split : {ru : Rule} {rest : List Rule} {r code y : ℕ} → RuleStep (ru ∷ rest) r x code y → Split ru rest r code y
  split (right_of i u first g e a b) = straight g (omega arith) a b
  split (right_of i u (later {r = j} n) g e a b) = beyond (right_of j u n g (omega arith) a b)
  split (left_of i u first g e a b) = crossed g (omega arith) a b
  split (left_of i u (later {r = j} n) g e a b) = beyond (left_of j u n g (omega arith) a b)

  -- codes of rules from number r on are above 2r
  code_above : {rules : List Rule} {r code y : ℕ} → RuleStep rules r x code y → 2 * r + 1 ≤ code
  code_above (right_of i u n g e a b) = omega arith
  code_above (left_of i u n g e a b) = omega arith

  rule_least : (rules : List Rule) (r code y : ℕ) → RuleStep rules r x code y → Has s y
      → Least (RuleStep rules r x) s (rule_move rules r x s)
  unfolding rule_move
  rule_least [] r code y (right_of i u n g e a b) h = let l : i < 0 = numbered_lt n in absurd (omega arith)
  rule_least [] r code y (left_of i u n g e a b) h = let l : i < 0 = numbered_lt n in absurd (omega arith)
  rule_least (ru ∷ rest) r code y st h =
      pick (goes_along ru && eqb ru.left x && hasb s ru.right) (goes_against ru && eqb ru.right x && hasb s ru.left)
      refl refl (λ (t : RuleStep rest (suc r) x code y). rule_least rest (suc r) code y t h)
    where
      on : (goes_along ru && eqb ru.left x && hasb s ru.right) ≡ false
          → (goes_against ru && eqb ru.right x && hasb s ru.left) ≡ false
          → (a z : ℕ) → Has s z → Split ru rest r a z → RuleStep rest (suc r) x a z
      on e f a z k (straight g q p o) = absurd (untested (goes_along ru) ru.left x s ru.right e g p (rw (← o) at k))
      on e f a z k (crossed g q p o) = absurd (untested (goes_against ru) ru.right x s ru.left f g p (rw (← o) at k))
      on e f a z k (beyond t) = t

      above : (goes_along ru && eqb ru.left x && hasb s ru.right) ≡ false
          → (a z : ℕ) → Has s z → Split ru rest r a z → 2 * r + 2 ≤ a
      above e a z k (straight g q p o) = absurd (untested (goes_along ru) ru.left x s ru.right e g p (rw (← o) at k))
      above e a z k (crossed g q p o) = omega arith
      above e a z k (beyond t) = omega (arith, code_above t)

      pick : (p q : Bool) → (goes_along ru && eqb ru.left x && hasb s ru.right) ≡ p
          → (goes_against ru && eqb ru.right x && hasb s ru.left) ≡ q
          → (RuleStep rest (suc r) x code y → Least (RuleStep rest (suc r) x) s (rule_move rest (suc r) x s))
          → Least (RuleStep (ru ∷ rest) r x) s (rule_move (ru ∷ rest) r x s)
      pick true q e f again =
          let t = tested (goes_along ru) ru.left x s ru.right e in
          rw (rule_move, e) (record {
            taken = right_of 0 ru first t.passes (omega arith) t.equal refl;
            into = t.member;
            least = λ a z k m. code_above k;
          })
      pick false true e f again =
          let t = tested (goes_against ru) ru.right x s ru.left f in
          rw (rule_move, e, f) (record {
            taken = left_of 0 ru first t.passes (omega arith) t.equal refl;
            into = t.member;
            least = λ a z k m. above e a z m (split k);
          })
      pick false false e f again =
          let l = again (on e f code y h (split st)) in
          rw (rule_move, e, f) (record {
            taken = rule_later l.taken;
            into = l.into;
            least = λ a z k m. l.least a z (on e f a z m (split k)) m;
          })

-- a step is a climb, or one by a rule
data Kind (parent : ℕ → ℕ) (rules : List Rule) (x code y : ℕ) : Type 0 where
  climbs : 0 < x → code ≡ 0 → parent x ≡ y → Kind parent rules x code y
  rules_it : RuleStep rules 0 x code y → Kind parent rules x code y

module _ {parent : ℕ → ℕ} {rules : List Rule} {x : ℕ} where
  kind_of : {code y : ℕ} → Step parent rules x code y → Kind parent rules x code y
  kind_of (climb h e p) = climbs h e p
  kind_of (along r ru n g e a b) = rules_it (right_of r ru n (kind_along ru g) (omega arith) a b)
  kind_of (against r ru n g e a b) = rules_it (left_of r ru n (kind_against ru g) (omega arith) a b)

  rule_step : {code y : ℕ} → RuleStep rules 0 x code y → Step parent rules x code y
  rule_step (right_of i ru n g e a b) = along i ru n (along_kind ru g) (omega arith) a b
  rule_step (left_of i ru n g e a b) = against i ru n (against_kind ru g) (omega arith) a b

  -- the least move into a set is the step with the least code that leads there, if some step does
  pub move_least : (s code y : ℕ) → Step parent rules x code y → Has s y → Least (Step parent rules x) s (least_move parent rules x s)
  unfolding least_move
  move_least s code y st h = pick (ltb 0 x && hasb s (parent x)) refl
    where
      by_rule_lem : (ltb 0 x && hasb s (parent x)) ≡ false → (a z : ℕ) → Has s z → Kind parent rules x a z → RuleStep rules 0 x a z
      by_rule_lem e a z m (climbs l c p) =
          absurd (true≢false (sym (rw (lt-ltb 0 x l, hasb_has s (parent x) (rw (← p) at m))) ∙ e))
      by_rule_lem e a z m (rules_it t) = t

      pick : (p : Bool) → (ltb 0 x && hasb s (parent x)) ≡ p → Least (Step parent rules x) s (least_move parent rules x s)
      pick true e =
          let t = (and-eq-true_iff (ltb 0 x) (hasb s (parent x))).0 e in
          rw (least_move, e) (record {
            taken = climb (ltb-true 0 x t.0) refl refl;
            into = hasb_true s (parent x) t.1;
            least = λ a z k m. omega arith;
          })
      pick false e =
          let l = rule_least x s rules 0 code y (by_rule_lem e code y h (kind_of st)) h in
          rw (least_move, e) (record {
            taken = rule_step l.taken;
            into = l.into;
            least = λ a z k m. l.least a z (by_rule_lem e a z m (kind_of k)) m;
          })
