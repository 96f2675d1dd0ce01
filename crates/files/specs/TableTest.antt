-- The test behind refusal 12, computed: the paths, the required paths and the rules of a table handed in, each by its own part.
use Rattle.std.specs.Prelude.{ℕ, Option, Some, None, ◌+◌, ◌-◌, Bool, true, false, cond, List, [], ◌∷◌, ◌++◌, length, get_or, ltb, eqb}
use Rattle.files.specs.declared.rules.Rules.{Rules}
use Rattle.files.specs.Number.{limit}
use Rattle.files.specs.RuleFile.{between, parent_test, label_test, depths}
use Rattle.files.specs.Rules.{paths_from, rules_from}
use Rattle.files.specs.Sets.{common, difference, below_all}
use Rattle.files.specs.Table.{Path, Rule}

-- whether both tests pass
abbrev pub both : Bool → Bool → Bool
both a b = cond a b false

-- a path's parent and label pass their tests after the paths ps, and its label is a number of the file
unfoldable pub path_passes : List Path → Path → Bool
path_passes ps p =
    both (eqb (parent_test (depths ps) (1 + length ps) p.parent) 0) (both (eqb (label_test ps p.parent p.label) 0) (ltb p.label limit))

-- so do all the paths that follow ps
unfoldable pub paths_pass : List Path → List Path → Bool
paths_pass ps [] = true
paths_pass ps (p ∷ rest) = both (path_passes ps p) (paths_pass (ps ++ (p ∷ [])) rest)

-- the depth of a path that passes its tests after the paths ps, else 0
unfoldable pub passing_depth : List Path → ℕ → ℕ → ℕ
passing_depth ps p l = cond (path_passes ps (record { parent = p; label = l })) (1 + get_or (depths ps) p 0) 0

-- the depth that was found, else 0
abbrev pub depth_number : Option ℕ → ℕ
depth_number None = 0
depth_number (Some d) = d

-- rule number x, as the arrays have it
abbrev pub rule_at : List ℕ → List ℕ → List ℕ → ℕ → Rule
rule_at kind left right x = record { kind = get_or kind x 0; left = get_or left x 0; right = get_or right x 0 }

-- a rule's kind and sides pass their tests in a table of `count` paths
unfoldable pub rule_passes : ℕ → Rule → Bool
rule_passes count ru =
    both (eqb (between 1 4 9 ru.kind) 0) (both (eqb (between 0 count 10 ru.left) 0) (eqb (between 0 count 10 ru.right) 0))

-- so do all of them
unfoldable pub rules_pass : ℕ → List Rule → Bool
rules_pass count [] = true
rules_pass count (ru ∷ rest) = both (rule_passes count ru) (rules_pass count rest)

-- the required paths are in the table, and the root is none of them
unfoldable pub required_pass : ℕ → ℕ → Bool
required_pass count w = both (eqb (common w 1) 0) (eqb (difference w (below_all count)) 0)

-- the part of the test behind refusal 12 that is about the paths: their count, the root's label, then each path
unfoldable pub paths_valid : List ℕ → List ℕ → ℕ → Bool
paths_valid parent label count =
    both (eqb (between 1 65 3 count) 0) (both (ltb (get_or label 0 0) limit) (paths_pass [] (paths_from parent label 1 (count - 1))))

-- the part of it that is about the rules: their count, then each rule
unfoldable pub rules_valid : List ℕ → List ℕ → List ℕ → ℕ → ℕ → Bool
rules_valid kind left right many count = both (eqb (between 0 257 8 many) 0) (rules_pass count (rules_from kind left right 0 many))

-- the test behind refusal 12
unfoldable pub table_passes : Rules → Bool
table_passes t =
    both (paths_valid t.parent t.label t.paths)
    (both (required_pass t.paths t.required) (rules_valid t.kind t.left t.right t.rules t.paths))
