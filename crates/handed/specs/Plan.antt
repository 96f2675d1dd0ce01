-- The plan of a document: one list of words for the goals of the parts on each path, and the number of the first part there.
use Rattle.std.specs.Prelude.{ℕ, zero, suc, ◌+◌, ◌%◌, true, false, List, [], ◌∷◌, ◌++◌, eqb, get_or, set, replicate}
use Rattle.files.specs.Sets.{hasb, with_path, common, members}
use Rattle.reachable.specs.Sheet.{row, below_at, child_at, slot_of, parent_in, paths_in}
use Rattle.theory.specs.Handed.{gather, parts_on}
use Rattle.handed.specs.Goals.{one_in, all_in, chain_in, root_of}

-- where the rows begin: from 0 on the goals of the one-goal parts on each path; the goals of all their children; the number of the first
-- part; then the paths that carry all goals in one part, the goals of part 0, and their context
abbrev pub named_at : ℕ
named_at = 64

abbrev pub first_at : ℕ
first_at = 128

abbrev pub whole_at : ℕ
whole_at = 192

abbrev pub start_at : ℕ
start_at = 193

abbrev pub top_at : ℕ
top_at = 194

-- how many words the plan has
abbrev pub plan_words : ℕ
plan_words = 195

-- the paths that carry all goals in one part
abbrev pub whole_in : (plan : List ℕ) → ℕ
whole_in plan = get_or plan whole_at 0

-- the goals of the one-goal children of the part on c that has all goals
unfoldable pub all_for : (sheet plan : List ℕ) (c : ℕ) → ℕ
all_for sheet plan c = all_in sheet (get_or plan start_at 0) (get_or plan top_at 0 % 64) c

-- the plan before any path: what the document begins with
unfoldable pub opened : (sheet : List ℕ) (goals top : ℕ) → List ℕ
opened sheet goals top = set (set (set (replicate plan_words 0) whole_at (chain_in sheet goals top)) start_at goals) top_at top

-- the goals of the one-goal parts on c, where those of the children of its parent's parts are known
unfoldable pub goals_here : (sheet plan : List ℕ) (c : ℕ) → ℕ
goals_here sheet plan c =
    elim (eqb c 0) [
      | true ↦ root_of (get_or plan start_at 0)
      | false ↦ common (row named_at plan (parent_in sheet c)) (row below_at sheet c)
    ]

-- the goals of all one-goal children of the parts on c: of the one-goal parts with goals `here`, and of the part with all
unfoldable pub kids_here : (sheet plan : List ℕ) (c here : ℕ) → ℕ
kids_here sheet plan c here =
    gather (one_in sheet (slot_of sheet c) c) 64 here (elim (hasb (whole_in plan) c) [ true ↦ all_for sheet plan c | false ↦ 0 ])

-- path c is planned
unfoldable pub plan_path : (sheet plan : List ℕ) (c : ℕ) → List ℕ
plan_path sheet plan c =
    let here = goals_here sheet plan c in
    set (set plan c here) (named_at + c) (kids_here sheet plan c here)

-- each of the `left` paths from c on is planned
unfoldable pub plan_paths : (sheet : List ℕ) (left c : ℕ) (plan : List ℕ) → List ℕ
plan_paths sheet zero c plan = plan
plan_paths sheet (suc left) c plan = plan_paths sheet left (suc c) (plan_path sheet plan c)

-- the child paths of the paths of a set
unfoldable pub under_in : (sheet : List ℕ) (w : ℕ) → ℕ
under_in sheet w = gather (λ c. row child_at sheet c) 64 w 0

-- the paths of a set, then their child paths, and so on, so many times
unfoldable pub layers_in : (sheet : List ℕ) (left w : ℕ) → List ℕ
layers_in sheet zero w = []
layers_in sheet (suc left) w = members w ++ layers_in sheet left (under_in sheet w)

-- the paths in the order of the parts: by depth, then number
unfoldable pub order_in : (sheet : List ℕ) → List ℕ
order_in sheet = layers_in sheet 8 (with_path 0 0)

-- a plan in which so many parts have a number
pub record Placing : Type 0 where
  pub parts : ℕ
  pub plan : List ℕ

abbrev pub placing : (parts : ℕ) (plan : List ℕ) → Placing
placing parts plan = record { parts = parts; plan = plan }

-- the parts on path c are numbered
unfoldable pub place_one : (c : ℕ) (p : Placing) → Placing
place_one c p = placing (p.parts + parts_on (whole_in p.plan) p.plan c) (set p.plan (first_at + c) p.parts)

-- those on the paths of a list, one after the other
unfoldable pub place_each : (paths : List ℕ) (p : Placing) → Placing
place_each [] p = p
place_each (c ∷ rest) p = place_each rest (place_one c p)

-- the plan of a document, and how many parts it has
unfoldable pub planned : (sheet : List ℕ) (goals top : ℕ) → Placing
planned sheet goals top = place_each (order_in sheet) (placing 0 (plan_paths sheet (paths_in sheet) 0 (opened sheet goals top)))
