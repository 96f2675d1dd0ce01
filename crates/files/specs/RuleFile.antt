-- The rule file: its numbers in order, and the refusal that each may meet.
use Rattle.std.specs.Prelude.{ℕ, zero, suc, ◌+◌, ◌-◌, Bool, true, false, cond, List, [], ◌∷◌, ◌++◌, length, get_or, ltb, leb, eqb}
use Rattle.files.specs.Number.{bytes_of_all}
use Rattle.files.specs.Format.{Format, done, want, and_then}
use Rattle.files.specs.Table.{Path, Rule, RuleSet}

-- the test of a number that stands from `low` up to and without `past`; else the refusal
unfoldable pub between : ℕ → ℕ → ℕ → ℕ → ℕ
between low past refusal n = cond (leb low n) (cond (ltb n past) 0 refusal) refusal

-- the test of a number that has none of its own
abbrev pub any : ℕ → ℕ
any n = 0

-- the depths of paths, added one by one to those known
unfoldable pub deeper : List ℕ → List Path → List ℕ
deeper ds [] = ds
deeper ds (p ∷ ps) = deeper (ds ++ ((1 + get_or ds p.parent 0) ∷ [])) ps

-- the depths of paths 0, 1, ..
unfoldable pub depths : List Path → List ℕ
depths ps = deeper (1 ∷ []) ps

-- the test of a parent: 4 where it is not below the path's own number, 5 where the depth would be 9
unfoldable pub parent_test : List ℕ → ℕ → ℕ → ℕ
parent_test ds own p = cond (ltb p own) (cond (ltb (get_or ds p 0) 8) 0 5) 4

-- whether a path has this parent and this label
unfoldable pub same_child : ℕ → ℕ → ℕ → ℕ → Bool
same_child parent label p l = cond (eqb parent p) (eqb label l) false

-- whether parent and label are those of some path
unfoldable pub repeats : List Path → ℕ → ℕ → Bool
repeats [] p l = false
repeats (x ∷ ps) p l = cond (same_child x.parent x.label p l) true (repeats ps p l)

-- the test of a label: 6 where parent and label repeat an earlier path's
unfoldable pub label_test : List Path → ℕ → ℕ → ℕ
label_test ps p l = cond (repeats ps p l) 6 0

-- the label of a path with parent p, after the paths ps
unfoldable pub path_label : List Path → ℕ → Format Path
path_label ps p = want (label_test ps p) (λ l. done (record { parent = p; label = l }))

-- one path, after the paths ps
unfoldable pub one_path : List Path → Format Path
one_path ps = want (parent_test (depths ps) (1 + length ps)) (λ p. path_label ps p)

-- so many paths more, after the paths ps
unfoldable pub more_paths : ℕ → List Path → Format (List Path)
more_paths zero ps = done ps
more_paths (suc k) ps = and_then (one_path ps) (λ p. more_paths k (ps ++ (p ∷ [])))

-- so many numbers more, each above the one before it, the first above `last`, and below `past`; else the refusal
unfoldable pub more_ascending : (refusal past : ℕ) → ℕ → ℕ → List ℕ → Format (List ℕ)
more_ascending refusal past zero last xs = done xs
more_ascending refusal past (suc k) last xs =
    want (between (last + 1) past refusal) (λ x. more_ascending refusal past k x (xs ++ (x ∷ [])))

-- the right path of a rule in a table of `count` paths
unfoldable pub rule_right : ℕ → ℕ → ℕ → Format Rule
rule_right count k l = want (between 0 count 10) (λ r. done (record { kind = k; left = l; right = r }))

-- its left path, and on
unfoldable pub rule_left : ℕ → ℕ → Format Rule
rule_left count k = want (between 0 count 10) (λ l. rule_right count k l)

-- one rule: its kind first
unfoldable pub one_rule : ℕ → Format Rule
one_rule count = want (between 1 4 9) (λ k. rule_left count k)

-- so many rules more
unfoldable pub more_rules : ℕ → ℕ → List Rule → Format (List Rule)
more_rules count zero rs = done rs
more_rules count (suc k) rs = and_then (one_rule count) (λ r. more_rules count k (rs ++ (r ∷ [])))

-- so many rules, to the end
unfoldable pub rules_to_end : ℕ → List Path → List ℕ → ℕ → Format RuleSet
rules_to_end root ps req k =
    and_then (more_rules (1 + length ps) k []) (λ rs. done (record { root = root; paths = ps; required = req; rules = rs }))

-- rule count and rules
unfoldable pub after_required : ℕ → List Path → List ℕ → Format RuleSet
after_required root ps req = want (between 0 257 8) (λ k. rules_to_end root ps req k)

-- so many required numbers, above 0 and below the path count, and on
unfoldable pub required_on : ℕ → List Path → ℕ → Format RuleSet
required_on root ps k = and_then (more_ascending 7 (1 + length ps) k 0 []) (λ req. after_required root ps req)

-- required count and required numbers, and on
unfoldable pub after_paths : ℕ → List Path → Format RuleSet
after_paths root ps = want any (λ k. required_on root ps k)

-- parents and labels, and on
unfoldable pub after_root : ℕ → ℕ → Format RuleSet
after_root count root = and_then (more_paths (count - 1) []) (λ ps. after_paths root ps)

-- root label, and on
unfoldable pub after_count : ℕ → Format RuleSet
after_count count = want any (λ root. after_root count root)

-- the rule file: the path count first
unfoldable pub rule_file : Format RuleSet
rule_file = want (between 1 65 3) (λ count. after_count count)

-- the numbers of paths, one after the other: of each its parent and its label
unfoldable pub path_numbers : List Path → List ℕ
path_numbers [] = []
path_numbers (p ∷ ps) = p.parent ∷ p.label ∷ path_numbers ps

-- the numbers of rules, one after the other: of each its kind, its left and its right path
unfoldable pub rule_numbers : List Rule → List ℕ
rule_numbers [] = []
rule_numbers (r ∷ rs) = r.kind ∷ r.left ∷ r.right ∷ rule_numbers rs

-- the numbers of a rule file
unfoldable pub numbers_of : RuleSet → List ℕ
numbers_of r =
    (1 + length r.paths) ∷ r.root
    ∷ (path_numbers r.paths ++ (length r.required ∷ (r.required ++ (length r.rules ∷ rule_numbers r.rules))))

-- the bytes of a rule file
unfoldable pub file_of : RuleSet → List ℕ
file_of r = bytes_of_all (numbers_of r)
