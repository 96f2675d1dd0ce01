-- The struct `Rules`: the rule set that it stands for, and the struct that reading hands back for a rule set.
use Rattle.std.specs.Prelude.{ℕ, zero, suc, ◌+◌, ◌-◌, ◌<◌, cond, List, [], ◌∷◌, ◌++◌, map, ltb, length, get_or, replicate}
use Rattle.files.specs.declared.rules.Rules.{Rules}
use Rattle.files.specs.Sets.{members, with_path}
use Rattle.files.specs.Table.{Path, Rule, RuleSet, Valid, parents, labels}

-- so many paths from number x on, as the arrays have them
unfoldable pub paths_from : List ℕ → List ℕ → ℕ → ℕ → List Path
paths_from parent label x zero = []
paths_from parent label x (suc k) = record { parent = get_or parent x 0; label = get_or label x 0 } ∷ paths_from parent label (x + 1) k

-- so many rules from number r on, as the arrays have them
unfoldable pub rules_from : List ℕ → List ℕ → List ℕ → ℕ → ℕ → List Rule
rules_from kind left right r zero = []
rules_from kind left right r (suc k) =
    record { kind = get_or kind r 0; left = get_or left r 0; right = get_or right r 0 } ∷ rules_from kind left right (r + 1) k

-- a list in an array of n numbers: 0 in the slots that it leaves
unfoldable pub padded : ℕ → List ℕ → List ℕ
padded n l = l ++ replicate (n - length l) 0

-- the number of slots that a count of paths means, of the 64
unfoldable pub first_of : ℕ → ℕ
first_of count = cond (ltb count 64) count 64

-- so many slots from x on
unfoldable pub slots_from : List ℕ → ℕ → ℕ → List ℕ
slots_from l x zero = []
slots_from l x (suc k) = get_or l x 0 ∷ slots_from l (x + 1) k

-- the parents of the first `count` paths in an array of their own, the root as its own parent
unfoldable pub parents_in : List ℕ → ℕ → List ℕ
parents_in parent count = padded 64 (0 ∷ slots_from parent 1 (first_of count - 1))

-- the rule set that a struct stands for
unfoldable pub rules_of : Rules → RuleSet
rules_of t =
    record {
      root = get_or t.label 0 0;
      paths = paths_from t.parent t.label 1 (t.paths - 1);
      required = members t.required;
      rules = rules_from t.kind t.left t.right 0 t.rules;
    }

-- a table handed in that breaks no condition of 3 to 10 and has no label above the limit (else refusal 12)
pub record ValidTable (t : Rules) : Type 0 where
  pub some : 0 < t.paths
  pub valid : Valid (rules_of t)

-- the set of the numbers of a list, added to w
unfoldable pub add_all : ℕ → List ℕ → ℕ
add_all w [] = w
add_all w (x ∷ xs) = add_all (with_path w x) xs

-- the struct that reading hands back for a rule set
unfoldable pub table_of : RuleSet → Rules
table_of r =
    record {
      paths = 1 + length r.paths;
      parent = padded 64 (parents r.paths);
      label = padded 64 (labels r.root r.paths);
      required = add_all 0 r.required;
      rules = length r.rules;
      kind = padded 256 (map (λ (ru : Rule). ru.kind) r.rules);
      left = padded 256 (map (λ (ru : Rule). ru.left) r.rules);
      right = padded 256 (map (λ (ru : Rule). ru.right) r.rules);
    }

-- the one-path table with label 0, no required paths and no rules
unfoldable pub no_rules : RuleSet
no_rules = record { root = 0; paths = []; required = []; rules = [] }
