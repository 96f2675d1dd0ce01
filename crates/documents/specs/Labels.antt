-- A path of a table as source document 000 has it: the sequence of labels from the root down.
use Rattle.std.specs.Prelude.{ℕ, ◌<◌, ◌≡◌, List, [], ◌∷◌, ◌++◌, get_or}
use Rattle.files.specs.Table.{RuleSet, labels, parent_in}

-- the label of a path
abbrev pub label_in : RuleSet → ℕ → ℕ
label_in r x = get_or (labels r.root r.paths) x 0

-- path x spells a sequence of labels: the root its own label, any other path its parent's sequence and then its own label
pub data Spells (r : RuleSet) : ℕ → List ℕ → Type 0 where
  root : Spells r 0 (label_in r 0 ∷ [])
  under : {x : ℕ} {above : List ℕ} → 0 < x → Spells r (parent_in r.paths x) above → Spells r x (above ++ (label_in r x ∷ []))

-- one sequence of labels is a prefix of another
pub record Prefix (before whole : List ℕ) : Type 0 where
  pub rest : List ℕ
  pub joined : whole ≡ before ++ rest
