-- A table of paths with its required paths and its rules, as 01 speaks of them.
use Rattle.std.specs.Prelude.{ℕ, suc, ◌+◌, ◌<◌, ◌≤◌, ◌≡◌, length, get_or}
use mathlib.Core.List.{List, ◌∷◌, map, Memᴰ}
use Rattle.files.specs.Number.{limit}
use Rattle.files.specs.Sets.{Ascending}

-- a path other than the root: its parent's number and its label
pub record Path : Type 0 where
  pub parent : ℕ
  pub label : ℕ

-- a rule: its kind (1 implication, 2 absence, 3 co-occurrence), its left and its right path
pub record Rule : Type 0 where
  pub kind : ℕ
  pub left : ℕ
  pub right : ℕ

-- rule number r of the list is ru; rules are numbered from 0
pub data Numbered : List Rule → ℕ → Rule → Type 0 where
  first : {ru : Rule} {rest : List Rule} → Numbered (ru ∷ rest) 0 ru
  later : {ru before : Rule} {rest : List Rule} {r : ℕ} → Numbered rest r ru → Numbered (before ∷ rest) (suc r) ru

-- what a rule file says: the root's label, paths 1, 2, .. in order, the required paths, the rules from number 0
pub record RuleSet : Type 0 where
  pub root : ℕ
  pub paths : List Path
  pub required : List ℕ
  pub rules : List Rule

-- the parents of paths 0, 1, ..; the root, which has none, stands as its own
abbrev pub parents : List Path → List ℕ
parents ps = 0 ∷ map (λ (p : Path). p.parent) ps

-- the labels of paths 0, 1, ..
abbrev pub labels : ℕ → List Path → List ℕ
labels root ps = root ∷ map (λ (p : Path). p.label) ps

-- the parent of a path; 0 for the root and for a number past the table
abbrev pub parent_in : List Path → ℕ → ℕ
parent_in ps x = get_or (parents ps) x 0

-- the depth of a path: the root has 1, any other path one more than its parent
pub data Depth (ps : List Path) : ℕ → ℕ → Type 0 where
  root : Depth ps 0 1
  under : {x d : ℕ} → 0 < x → Depth ps (parent_in ps x) d → Depth ps x (suc d)

-- a table that breaks no condition of 01
pub record Valid (r : RuleSet) : Type 0 where
  -- 1 to 64 paths, the root among them
  pub paths : 1 + length r.paths ≤ 64
  -- every other path has a parent with a smaller number
  pub smaller : (x : ℕ) → 0 < x → x < 1 + length r.paths → parent_in r.paths x < x
  -- depth is at most 8
  pub depth : (x d : ℕ) → x < 1 + length r.paths → Depth r.paths x d → d ≤ 8
  -- no two paths share both parent and label
  pub distinct : (x y : ℕ) → 0 < x → x < y → y < 1 + length r.paths → parent_in r.paths x ≡ parent_in r.paths y
      → get_or (labels r.root r.paths) x 0 ≡ get_or (labels r.root r.paths) y 0 → ⊥
  -- labels are numbers of the file
  pub label : (x : ℕ) → x < 1 + length r.paths → get_or (labels r.root r.paths) x 0 < limit
  -- required paths ascend strictly, the root is none of them, and each is in the table
  pub required : Ascending 1 r.required
  pub present : (x : ℕ) → Memᴰ x r.required → x < 1 + length r.paths
  -- at most 256 rules, each of kind 1, 2 or 3 over paths of the table
  pub rules : length r.rules ≤ 256
  pub kind : (n : ℕ) (ru : Rule) → Numbered r.rules n ru → (1 ≤ ru.kind) × (ru.kind ≤ 3)
  pub left : (n : ℕ) (ru : Rule) → Numbered r.rules n ru → ru.left < 1 + length r.paths
  pub right : (n : ℕ) (ru : Rule) → Numbered r.rules n ru → ru.right < 1 + length r.paths
