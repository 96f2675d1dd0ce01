-- Laws of the tests of a table: what it says of each path and each rule that they hold, both ways.
use Prim.Native.Nat.{ℕ, suc, ◌+◌, ◌<◌, ◌≤◌}
use mathlib.Core.Path.{◌≡◌, refl, ap}
use mathlib.Core.Logic.{◌↔◌}
use mathlib.Core.Bool.{Bool, true, false, false≢true}
use mathlib.Core.List.{List, [], ◌∷◌, ◌++◌, append-nil}
use native.Mathlib.Omega.{arith}
use lib.ListN.{length, get_or}
use lib.Seq.{append_snoc}
use lib.Dec.{ltb, eqb}
use borrow.Author.Tests.{lt-ltb, eq-eqb, ltb-true, eqb-true}
use Rattle.files.specs.Number.{limit}
use Rattle.files.specs.RuleFile.{between, depths, parent_test, label_test}
use Rattle.files.specs.Table.{Path, Rule, Numbered, first, later}
use Rattle.files.specs.TableTest.{both, path_passes, paths_pass, rule_passes, rules_pass}
use Rattle.files.proofs.Rows.{between_passes, parent_passes}

pub both_true : (a b : Bool) → both a b ≡ true → (a ≡ true) × (b ≡ true)
both_true true b e = (refl, e)
both_true false b e = absurd (false≢true e)

pub both_made : (a b : Bool) → a ≡ true → b ≡ true → both a b ≡ true
both_made a b e f = rw e f

-- a path that passes after the paths ps
pub record PathGood (ps : List Path) (p : Path) : Type 0 where
  pub smaller : p.parent < 1 + length ps
  pub shallow : get_or (depths ps) p.parent 0 < 8
  pub new : label_test ps p.parent p.label ≡ 0
  pub label : p.label < limit

pub path_passes_lem : (ps : List Path) (p : Path) → (path_passes ps p ≡ true) ↔ PathGood ps p
unfolding path_passes
path_passes_lem ps p = (only, made)
  where
    own : ℕ
    own = parent_test (depths ps) (1 + length ps) p.parent

    again : ℕ
    again = label_test ps p.parent p.label

    only : both (eqb own 0) (both (eqb again 0) (ltb p.label limit)) ≡ true → PathGood ps p
    only e =
        let a = both_true (eqb own 0) _ e in
        let b = both_true (eqb again 0) _ a.1 in
        let c = (parent_passes (depths ps) (1 + length ps) p.parent).0 (eqb-true own 0 a.0) in
        record { smaller = c.0; shallow = c.1; new = eqb-true again 0 b.0; label = ltb-true p.label limit b.1 }

    made : PathGood ps p → both (eqb own 0) (both (eqb again 0) (ltb p.label limit)) ≡ true
    made g =
        both_made _ _ (eq-eqb own 0 ((parent_passes (depths ps) (1 + length ps) p.parent).1 (g.smaller, g.shallow)))
        (both_made _ _ (eq-eqb again 0 g.new) (lt-ltb p.label limit g.label))

-- paths pass exactly where each of them passes after those before it
pub paths_each : (ps before : List Path) (p : Path) (after : List Path) → paths_pass ps (before ++ (p ∷ after)) ≡ true
    → PathGood (ps ++ before) p
unfolding paths_pass
paths_each ps [] p after e = rw (append-nil ps) ((path_passes_lem ps p).0 (both_true (path_passes ps p) _ e).0)
paths_each ps (q ∷ before) p after e =
    rw (← append_snoc ps q before) (paths_each (ps ++ (q ∷ [])) before p after (both_true (path_passes ps q) _ e).1)

pub paths_made : (ps rest : List Path)
    → ((before : List Path) (p : Path) (after : List Path) → rest ≡ before ++ (p ∷ after) → PathGood (ps ++ before) p)
    → paths_pass ps rest ≡ true
unfolding paths_pass
paths_made ps [] f = refl
paths_made ps (p ∷ rest) f =
    both_made _ _ ((path_passes_lem ps p).1 (rw (append-nil ps) at (f [] p rest refl)))
    (paths_made (ps ++ (p ∷ [])) rest
    (λ before q after e. rw (append_snoc ps p before) (f (p ∷ before) q after (ap (λ (l : List Path). p ∷ l) e))))

-- a rule that passes in a table of `count` paths
pub record RuleGood (count : ℕ) (ru : Rule) : Type 0 where
  pub some : 1 ≤ ru.kind
  pub known : ru.kind ≤ 3
  pub left : ru.left < count
  pub right : ru.right < count

pub rule_passes_lem : (count : ℕ) (ru : Rule) → (rule_passes count ru ≡ true) ↔ RuleGood count ru
unfolding rule_passes
rule_passes_lem count ru = (only, made)
  where
    k : ℕ
    k = between 1 4 9 ru.kind

    l : ℕ
    l = between 0 count 10 ru.left

    r : ℕ
    r = between 0 count 10 ru.right

    only : both (eqb k 0) (both (eqb l 0) (eqb r 0)) ≡ true → RuleGood count ru
    only e =
        let a = both_true (eqb k 0) _ e in
        let b = both_true (eqb l 0) _ a.1 in
        let kind = (between_passes 1 4 9 ru.kind (omega arith)).0 (eqb-true k 0 a.0) in
        record {
          some = kind.0;
          known = omega (arith, kind.1);
          left = ((between_passes 0 count 10 ru.left (omega arith)).0 (eqb-true l 0 b.0)).1;
          right = ((between_passes 0 count 10 ru.right (omega arith)).0 (eqb-true r 0 b.1)).1;
        }

    made : RuleGood count ru → both (eqb k 0) (both (eqb l 0) (eqb r 0)) ≡ true
    made g =
        both_made _ _ (eq-eqb k 0 ((between_passes 1 4 9 ru.kind (omega arith)).1 (g.some, omega (arith, g.known))))
        (both_made _ _ (eq-eqb l 0 ((between_passes 0 count 10 ru.left (omega arith)).1 (omega arith, g.left)))
        (eq-eqb r 0 ((between_passes 0 count 10 ru.right (omega arith)).1 (omega arith, g.right))))

-- rules pass exactly where each of them passes
pub rules_each : (count : ℕ) {rs : List Rule} {n : ℕ} {ru : Rule} → Numbered rs n ru → rules_pass count rs ≡ true → RuleGood count ru
unfolding rules_pass
rules_each count (first {ru}) e = (rule_passes_lem count ru).0 (both_true (rule_passes count ru) _ e).0
rules_each count (later {before = b} m) e = rules_each count m (both_true (rule_passes count b) _ e).1

pub rules_made : (count : ℕ) (rs : List Rule) → ((n : ℕ) (ru : Rule) → Numbered rs n ru → RuleGood count ru) → rules_pass count rs ≡ true
unfolding rules_pass
rules_made count [] f = refl
rules_made count (ru ∷ rs) f =
    both_made _ _ ((rule_passes_lem count ru).1 (f 0 ru first)) (rules_made count rs (λ n s m. f (suc n) s (later m)))
