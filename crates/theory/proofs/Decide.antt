-- A path is computed to be dead exactly if it is, with the least y and then the least rule.
use Prim.Native.Nat.{ℕ, zero, suc, ◌^◌, ◌≤◌, ◌<◌}
use mathlib.Core.Path.{◌≡◌, refl, sym, subst}
use mathlib.Core.Logic.{◌↔◌}
use mathlib.Core.Bool.{Bool, ◌&&◌}
use mathlib.Core.List.{List, [], ◌∷◌}
use native.Mathlib.Omega.{arith}
use lib.Dec.{T, eqb, eqb→eq, ltb→lt}
use lib.Ieee.Fits.{and_i, and_l, and_r}
use lib.ListN.{length}
use Rattle.files.specs.Table.{Rule, Numbered, first, later}
use Rattle.files.specs.Sets.{Has, lowest}
use Rattle.files.proofs.SetBits.{has_common, common_lt}
use Rattle.files.proofs.SetLowest.{lowest_first}
use Rattle.documents.specs.Paths.{Context, context_of}
use Rattle.documents.proofs.Paths.{below_le, context_of_context, context_is}
use Rattle.theory.specs.Walk.{Reach, DeadBy, Dead}
use Rattle.theory.specs.Reachable.{Fits, reachable, reachb}
use Rattle.theory.specs.Least.{passing}
use Rattle.theory.specs.Decide.{
  rule_at,
  LeastDead,
  both_from,
  clashb,
  clash_rule,
  clashes,
  clashing,
  clashes_from,
  dead_path,
  dead_rule,
  is_dead,
}
use Rattle.theory.proofs.Walks.{numbered_lt, reach_start}
use Rattle.theory.proofs.Reachable.{reachable_iff, reachable_small, reachb_iff, walk_in_table}
use Rattle.theory.proofs.Least.{least_passes, least_least, least_some, passing_iff, some_lowest, has_some}

-- a rule's number gives the rule
pub rule_at_numbered : {rules : List Rule} {r : ℕ} {ru : Rule} → Numbered rules r ru → rule_at rules r ≡ ru
unfolding rule_at
rule_at_numbered first = refl
rule_at_numbered (later n) = rule_at_numbered n

-- what has kind 2 is a rule of the list
absence_at_lem : (rules : List Rule) (r : ℕ) → (rule_at rules r).kind ≡ 2 → Numbered rules r (rule_at rules r)
unfolding rule_at
absence_at_lem [] r e = absurd (omega arith)
absence_at_lem (ru ∷ rest) zero e = first
absence_at_lem (ru ∷ rest) (suc r) e = later (absence_at_lem rest r e)

-- rule number r is an absence of which P holds
pub record AbsenceWith (rules : List Rule) (r : ℕ) (P : Rule → Type 0) : Type 0 where
  pub ru : Rule
  pub rule : Numbered rules r ru
  pub absence : ru.kind ≡ 2
  pub holds : P ru

-- the test of an absence by its number
pub absence_test : (rules : List Rule) (r : ℕ) (X : Rule → Bool)
    → T (eqb (rule_at rules r).kind 2 && X (rule_at rules r)) ↔ AbsenceWith rules r (λ ru. T (X ru))
absence_test rules r X = (to, back)
  where
    to : T (eqb (rule_at rules r).kind 2 && X (rule_at rules r)) → AbsenceWith rules r (λ ru. T (X ru))
    to t =
        let e = eqb→eq (rule_at rules r).kind 2 (and_l (eqb (rule_at rules r).kind 2) (X (rule_at rules r)) t) in
        record {
          ru = rule_at rules r;
          rule = absence_at_lem rules r e;
          absence = e;
          holds = and_r (eqb (rule_at rules r).kind 2) (X (rule_at rules r)) t;
        }

    back : AbsenceWith rules r (λ ru. T (X ru)) → T (eqb (rule_at rules r).kind 2 && X (rule_at rules r))
    back a = rw (rule_at_numbered a.rule) (and_i (eqb a.ru.kind 2) (X a.ru) (rw a.absence tt) a.holds)

-- y and rule number r clash: an absence whose context is a prefix of y and whose sides are both reachable from y inside it
record Clash (parent : ℕ → ℕ) (rules : List Rule) (y r : ℕ) : Type 0 where
  ru : Rule
  rule : Numbered rules r ru
  absence : ru.kind ≡ 2
  context : ℕ
  is_context : Context parent ru.left ru.right context
  left : Reach parent rules context y ru.left
  right : Reach parent rules context y ru.right

-- the sides of a rule, reached from p and from q inside its computed context
pub record Sides (parent : ℕ → ℕ) (rules : List Rule) (ru : Rule) (p q : ℕ) : Type 0 where
  pub left : Reach parent rules (context_of parent ru.left ru.right) p ru.left
  pub right : Reach parent rules (context_of parent ru.left ru.right) q ru.right

-- there is one least showing
pub least_dead_unique : {parent : ℕ → ℕ} {rules : List Rule} {p y z r s : ℕ} → LeastDead parent rules p y r
    → LeastDead parent rules p z s → (y ≡ z) × (r ≡ s)
least_dead_unique {parent} {rules} {p} {y} {z} {r} {s} a b =
    let e : y ≡ z = omega (arith, a.least_path z s b.by, b.least_path y r a.by) in (
      e,
      omega (
        arith,
        a.least_rule s (subst (λ (v : ℕ). DeadBy parent rules p v s) (sym e) b.by),
        b.least_rule r (subst (λ (v : ℕ). DeadBy parent rules p v r) e a.by),
      ),
    )

module _ {parent : ℕ → ℕ} {rules : List Rule} {count : ℕ} (fits : Fits parent rules count) where
  -- a rule's context is a path of the table
  pub context_in_table : (r : ℕ) (ru : Rule) → Numbered rules r ru → context_of parent ru.left ru.right < count
  context_in_table r ru n =
      let above = (context_of_context fits.descending ru.left ru.right).left in
      omega (arith, fits.rules_in.left r ru n, below_le fits.descending above)

  dead_clash : {p y r : ℕ} → DeadBy parent rules p y r → Clash parent rules y r
  dead_clash d = record {
    ru = d.ru;
    rule = d.rule;
    absence = d.absence;
    context = d.context;
    is_context = d.is_context;
    left = d.left;
    right = d.right;
  }

  clash_dead : {p y r : ℕ} → Reach parent rules 0 p y → Clash parent rules y r → DeadBy parent rules p y r
  clash_dead a d = record {
    ru = d.ru;
    rule = d.rule;
    absence = d.absence;
    context = d.context;
    is_context = d.is_context;
    prefix = reach_start d.left;
    here = a;
    left = d.left;
    right = d.right;
  }

  pub sides_iff : (r : ℕ) (ru : Rule) → Numbered rules r ru → (p q : ℕ) → p < count → q < count
      → T (reachb parent rules count (context_of parent ru.left ru.right) p ru.left
      && reachb parent rules count (context_of parent ru.left ru.right) q ru.right) ↔ Sides parent rules ru p q
  sides_iff r ru n p q h k =
      let a = context_of parent ru.left ru.right in
      let in_table = context_in_table r ru n in
      let left = reachb parent rules count a p ru.left in
      let right = reachb parent rules count a q ru.right in (
        λ t. record {
          left = (reachb_iff fits a p in_table h ru.left).0 (and_l left right t);
          right = (reachb_iff fits a q in_table k ru.right).0 (and_r left right t);
        },
        λ s. and_i left right
            ((reachb_iff fits a p in_table h ru.left).1 s.left)
            ((reachb_iff fits a q in_table k ru.right).1 s.right),
      )

  -- reached inside whatever is the context is reached inside the computed one
  pub in_context : {p q c : ℕ} {x y : ℕ} → Context parent p q c → Reach parent rules c x y → Reach parent rules (context_of parent p q) x y
  in_context {p} {q} {c} {x} {y} is a = subst (λ (z : ℕ). Reach parent rules z x y) (sym (context_is fits.descending is)) a

  clashb_iff : (y r : ℕ) → y < count → T (clashb parent rules count y r) ↔ Clash parent rules y r
  unfolding clashb both_from reachb
  clashb_iff y r h = (
    λ t. to ((absence_test rules r (λ ru. both_from parent rules count ru y)).0 t),
    λ d. (absence_test rules r (λ ru. both_from parent rules count ru y)).1 (back d),
  )
    where
      to : AbsenceWith rules r (λ ru. T (both_from parent rules count ru y)) → Clash parent rules y r
      to a =
          let s = (sides_iff r a.ru a.rule y y h h).0 a.holds in
          record {
            ru = a.ru;
            rule = a.rule;
            absence = a.absence;
            context = context_of parent a.ru.left a.ru.right;
            is_context = context_of_context fits.descending a.ru.left a.ru.right;
            left = s.left;
            right = s.right;
          }

      back : Clash parent rules y r → AbsenceWith rules r (λ ru. T (both_from parent rules count ru y))
      back d = record {
        ru = d.ru;
        rule = d.rule;
        absence = d.absence;
        holds = (sides_iff r d.ru d.rule y y h h).1
            (record { left = in_context d.is_context d.left; right = in_context d.is_context d.right });
      }

  some_clash : (y r : ℕ) → y < count → Clash parent rules y r → T (clashes parent rules count y)
  unfolding clashes clash_rule
  some_clash y r h d = least_some (clashb parent rules count y) (length rules) r (numbered_lt d.rule) ((clashb_iff y r h).1 d)

  -- the least rule that clashes at y
  least_clash : (y : ℕ) → y < count → T (clashes parent rules count y) → Clash parent rules y (clash_rule parent rules count y)
  unfolding clashes clash_rule
  least_clash y h t =
      (clashb_iff y (clash_rule parent rules count y) h).0
      (least_passes (clashb parent rules count y) (length rules) (ltb→lt (clash_rule parent rules count y) (length rules) t))

  clash_least : (y r : ℕ) → y < count → Clash parent rules y r → clash_rule parent rules count y ≤ r
  unfolding clash_rule
  clash_least y r h d = least_least (clashb parent rules count y) (length rules) r ((clashb_iff y r h).1 d)

  module _ (p : ℕ) (given : p < count) where
    -- the clashing paths that are reachable from p
    from_iff : (y : ℕ) → Has (clashes_from parent rules count p) y ↔ (Reach parent rules 0 p y × T (clashes parent rules count y))
    unfolding clashes_from clashing
    from_iff y =
        let s = reachable parent rules count 0 p in
        let both = has_common s (passing (clashes parent rules count) count) y in
        let is = reachable_iff fits 0 p (omega arith) given y in
        let clash = passing_iff (clashes parent rules count) count y fits.few in (
          λ h. (is.0 (both.0 h).0, (clash.0 (both.0 h).1).1),
          λ d. both.1 (is.1 d.0, clash.1 (walk_in_table fits given d.0.walk, d.1)),
        )

    from_small : clashes_from parent rules count p < 2 ^ 64
    unfolding clashes_from
    from_small = common_lt (reachable parent rules count 0 p) (clashing parent rules count) (reachable_small fits 0 p (omega arith) given)

    by_from : (y r : ℕ) → DeadBy parent rules p y r → Has (clashes_from parent rules count p) y
    by_from y r d = (from_iff y).1 (d.here, some_clash y r (walk_in_table fits given d.here.walk) (dead_clash d))

    -- where some path shows p dead, the least does, by the least rule
    shown : T (is_dead parent rules count p) → DeadBy parent rules p (dead_path parent rules count p) (dead_rule parent rules count p)
    unfolding is_dead dead_path dead_rule
    shown t =
        let y = lowest (clashes_from parent rules count p) in
        let found = (from_iff y).0 (some_lowest (clashes_from parent rules count p) from_small t) in
        clash_dead found.0 (least_clash y (walk_in_table fits given found.0.walk) found.1)

    -- the test decides dead
    pub is_dead_iff : T (is_dead parent rules count p) ↔ Dead parent rules p
    unfolding is_dead
    is_dead_iff = (
      λ t. record { y = dead_path parent rules count p; r = dead_rule parent rules count p; by = shown t },
      λ d. has_some (clashes_from parent rules count p) d.y (by_from d.y d.r d.by),
    )

    -- a dead path has its least showing, as computed
    pub dead_least : Dead parent rules p
        → LeastDead parent rules p (dead_path parent rules count p) (dead_rule parent rules count p)
    unfolding dead_path dead_rule
    dead_least d =
        let by = shown (is_dead_iff.1 d) in
        record {
          by = by;
          least_path = λ z s e. lowest_first (clashes_from parent rules count p) z (by_from z s e);
          least_rule = λ s e. clash_least (dead_path parent rules count p) s (walk_in_table fits given by.here.walk) (dead_clash e);
        }
