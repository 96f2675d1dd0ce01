-- What a valid table handed in says to the theory: its parents descend, its rules and required paths are in the table, and its
-- depths are at most 8.
use Prim.Native.Nat.{ℕ, zero, suc, ◌^◌, ◌≤◌, ◌<◌}
use mathlib.Core.Path.{◌≡◌, sym, subst}
use mathlib.Core.List.{Memᴰ}
use native.Mathlib.Omega.{arith}
use Rattle.files.specs.declared.rules.Rules.{Rules}
use Rattle.files.specs.Rules.{rules_of, ValidTable}
use Rattle.files.specs.Sets.{Has}
use Rattle.files.specs.Table.{Depth}
use Rattle.files.proofs.TableTests.{ascending_from}
use Rattle.documents.specs.Paths.{depth_of}
use Rattle.documents.proofs.Paths.{depth_root, depth_child}
use Rattle.documents.proofs.CheckingJoins.{count_is, few_paths, descending}
use Rattle.documents.specs.Judgement.{parents_of}
use Rattle.reasoning.specs.Calls.{rule_list_of, asked_of}
use Rattle.theory.specs.Decide.{asked_in}
use Rattle.theory.specs.Reachable.{Fits}
use Rattle.theory.specs.Required.{Needed}
use Rattle.theory.proofs.RootPair.{asked_in_iff, asked_in_members}

module _ (t : Rules) (v : ValidTable t) where
  -- its parents descend, and its rules are few and in the table
  pub table_fits : Fits (parents_of t) (rule_list_of t) t.paths
  table_fits = record {
    descending = descending t v;
    few = few_paths t v;
    few_rules = v.valid.rules;
    rules_in = record {
      left = λ r ru n. omega (arith, v.valid.left r ru n, count_is t v);
      right = λ r ru n. omega (arith, v.valid.right r ru n, count_is t v);
    };
  }

  depth_is : (n x : ℕ) → x < n → Depth (rules_of t).paths x (depth_of (parents_of t) x)
  depth_is zero x h = absurd (omega arith)
  depth_is (suc n) zero h = subst (λ (d : ℕ). Depth (rules_of t).paths 0 d) (sym (depth_root (descending t v))) Depth.root
  depth_is (suc n) (suc x) h =
      let up = (descending t v).smaller (suc x) (omega arith) in
      subst (λ (d : ℕ). Depth (rules_of t).paths (suc x) d) (sym (depth_child (descending t v) (suc x) (omega arith)))
      (Depth.under (omega arith) (depth_is n (parents_of t (suc x)) (omega arith)))

  -- its depths are at most 8
  pub table_shallow : (x : ℕ) → x < t.paths → depth_of (parents_of t) x ≤ 8
  table_shallow x h =
      v.valid.depth x (depth_of (parents_of t) x) (omega (arith, count_is t v)) (depth_is (suc x) x (omega arith))

  -- its required paths are in the table
  pub required_in : (x : ℕ) → Memᴰ x (rules_of t).required → x < t.paths
  required_in x m = omega (arith, v.valid.present x m, count_is t v)

  -- and the root is none of them
  pub required_inner : (x : ℕ) → Memᴰ x (rules_of t).required → 0 < x
  required_inner x m = ascending_from v.valid.required x m

module _ (t : Rules) (word : t.required < 2 ^ 64) where
  -- the set asked for is that of the required paths with the root
  pub asked_is : asked_of t ≡ asked_in (rules_of t).required
  unfolding rules_of
  asked_is = sym (asked_in_members t.required word)

  -- and is in the table
  pub asked_in_lem : ValidTable t → (x : ℕ) → Has (asked_of t) x → x < t.paths
  asked_in_lem v x h =
      by ((asked_in_iff (rules_of t).required (λ z m. omega (arith, required_in t v z m, few_paths t v)) x).0
      (subst (λ (w : ℕ). Has w x) asked_is h))
    where
      by : Needed (rules_of t).required x → x < t.paths
      by (Needed.root e) = omega (arith, v.some)
      by (Needed.listed m) = required_in t v x m
