-- A valid table as the code lends it out: its arrays are sound, stand for its parents and rules, and the sets looked up in the
-- table of words are its reachable sets.
use Prim.Native.Nat.{ℕ, ◌≤◌, ◌<◌}
use mathlib.Core.Path.{◌≡◌, refl, sym, ap, subst, fun_ext, ◌∙◌}
use mathlib.Core.List.{List}
use native.Mathlib.Omega.{arith}
use lib.ListN.{get_or}
use Rattle.files.specs.declared.rules.Rules.{Rules}
use Rattle.files.specs.Rules.{parents_in, rules_of, ValidTable}
use Rattle.files.proofs.Tables.{rules_length, parents_are}
use Rattle.documents.specs.Paths.{Descending, depth_of}
use Rattle.documents.proofs.CheckingJoins.{few_paths, descending}
use Rattle.reachable.specs.Arrays.{parent_of, rule_list, Sound}
use Rattle.documents.specs.Judgement.{parents_of}
use Rattle.reasoning.specs.Calls.{rule_list_of}
use Rattle.theory.specs.Parts.{RulesIn}
use Rattle.reasoning.proofs.ValidFits.{table_fits, table_shallow}

-- the arrays of rules stand for the rules
pub arrays_rules : (t : Rules) → rule_list t.kind t.left t.right t.rules ≡ rule_list_of t
unfolding rule_list rules_of
arrays_rules t = refl

module _ (t : Rules) (v : ValidTable t) (parent : List ℕ) (lent : parent ≡ parents_in t.parent t.paths) where
  -- the array of parents stands for the parents
  pub arrays_parents : parent_of parent ≡ parents_of t
  unfolding parent_of rules_of
  arrays_parents =
      fun_ext (λ x. ap (λ (l : List ℕ). get_or l x 0) lent ∙ parents_are t.parent t.label t.paths x (few_paths t v))

  few_rules_lem : t.rules ≤ 256
  unfolding rules_of
  few_rules_lem = omega (arith, v.valid.rules, rules_length t.kind t.left t.right 0 t.rules)

  -- the arrays are those of a table
  pub arrays_sound : Sound parent t.kind t.left t.right t.paths t.rules
  arrays_sound = record {
    parents = record {
      descending = subst Descending (sym arrays_parents) (descending t v);
      shallow = subst (λ (p : ℕ → ℕ). (x : ℕ) → x < t.paths → depth_of p x ≤ 8) (sym arrays_parents) (table_shallow t v);
      some = v.some;
      few = few_paths t v;
    };
    few_rules = few_rules_lem;
    rules_in = subst (RulesIn t.paths) (sym (arrays_rules t)) (table_fits t v).rules_in;
  }
