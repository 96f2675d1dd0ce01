-- The laws of steps, walks and reachable: determined by the code, joined, taken apart, moved to a prefix.
use Prim.Native.Nat.{ℕ, ◌<◌}
use mathlib.Core.Path.{◌≡◌, refl, sym, ap, ◌∙◌, subst}
use mathlib.Core.List.{List, [], ◌∷◌, ◌++◌}
use native.Mathlib.Omega.{arith}
use lib.ListN.{length}
use Rattle.files.specs.Table.{Rule, Numbered, first, later}
use Rattle.documents.specs.Paths.{Below, Descending}
use Rattle.documents.proofs.Paths.{below_trans, parent_le}
use Rattle.documents.proofs.RuleBreaks.{numbered_unique}
use Rattle.theory.specs.Walk.{Step, climb, along, against, Walk, stay, step, Reach}
use Rattle.theory.specs.Parts.{RulesIn}

-- a rule's number is below the number of rules
pub numbered_lt : {rules : List Rule} {r : ℕ} {ru : Rule} → Numbered rules r ru → r < length rules
numbered_lt first = omega arith
numbered_lt (later n) = omega (arith, numbered_lt n)

-- the first step of a walk: where it leads, and the walk from there
pub record Onward (parent : ℕ → ℕ) (rules : List Rule) (c x code : ℕ) (codes : List ℕ) (y : ℕ) : Type 0 where
  pub to : ℕ
  pub begins : Below parent c x
  pub first_step : Step parent rules x code to
  pub rest : Walk parent rules c to codes y

module _ {parent : ℕ → ℕ} {rules : List Rule} where
  -- from one path, one code leads to one path
  pub step_unique : {x code y z : ℕ} → Step parent rules x code y → Step parent rules x code z → y ≡ z
  step_unique (climb h e p) (climb k f q) = cc
  step_unique (climb h e p) (along r ru n k f a b) = absurd (omega arith)
  step_unique (climb h e p) (against r ru n k f a b) = absurd (omega arith)
  step_unique (along r ru n k f a b) (climb h e p) = absurd (omega arith)
  step_unique (along r ru n k f a b) (along r' ru' n' k' f' a' b') =
      let e : r' ≡ r = omega arith in
      let same-rule : ru ≡ ru' = numbered_unique n (subst (λ (i : ℕ). Numbered rules i ru') e n') in
      sym b ∙ ap (λ (u : Rule). u.right) same-rule ∙ b'
  step_unique (along r ru n k f a b) (against r' ru' n' k' f' a' b') = absurd (omega arith)
  step_unique (against r ru n k f a b) (climb h e p) = absurd (omega arith)
  step_unique (against r ru n k f a b) (along r' ru' n' k' f' a' b') = absurd (omega arith)
  step_unique (against r ru n k f a b) (against r' ru' n' k' f' a' b') =
      let e : r' ≡ r = omega arith in
      let same-rule : ru ≡ ru' = numbered_unique n (subst (λ (i : ℕ). Numbered rules i ru') e n') in
      sym b ∙ ap (λ (u : Rule). u.left) same-rule ∙ b'

  -- a walk begins below c
  pub walk_start : {c x y : ℕ} {codes : List ℕ} → Walk parent rules c x codes y → Below parent c x
  walk_start (stay h) = h
  walk_start (step h s w) = h

  -- a walk ends below c
  pub walk_end : {c x y : ℕ} {codes : List ℕ} → Walk parent rules c x codes y → Below parent c y
  walk_end (stay h) = h
  walk_end (step h s w) = walk_end w

  -- two walks, one after the other
  pub walk_append : {c x y z : ℕ} {s t : List ℕ} → Walk parent rules c x s y → Walk parent rules c y t z
      → Walk parent rules c x (s ++ t) z
  walk_append (stay h) v = v
  walk_append (step h s w) v = step h s (walk_append w v)

  -- a walk inside c is one inside every prefix of c
  pub walk_prefix : {d c x y : ℕ} {codes : List ℕ} → Below parent d c → Walk parent rules c x codes y → Walk parent rules d x codes y
  walk_prefix d (stay h) = stay (below_trans d h)
  walk_prefix d (step h s w) = step (below_trans d h) s (walk_prefix d w)

  -- a walk of some steps begins with its first
  pub walk_onward : {c x y code : ℕ} {codes : List ℕ} → Walk parent rules c x (code ∷ codes) y → Onward parent rules c x code codes y
  walk_onward (step {y = z} h s w) = record { to = z; begins = h; first_step = s; rest = w }

  -- a walk of no step ends where it begins
  pub walk_none : {c x y : ℕ} → Walk parent rules c x [] y → x ≡ y
  walk_none (stay h) = refl

  -- every path below c is reachable from itself
  pub reach_refl : {c x : ℕ} → Below parent c x → Reach parent rules c x x
  reach_refl h = record { codes = []; walk = stay h }

  -- reachable is handed on
  pub reach_trans : {c x y z : ℕ} → Reach parent rules c x y → Reach parent rules c y z → Reach parent rules c x z
  reach_trans a b = record { codes = a.codes ++ b.codes; walk = walk_append a.walk b.walk }

  -- a step away
  pub reach_step : {c x code y : ℕ} → Below parent c x → Step parent rules x code y → Below parent c y → Reach parent rules c x y
  reach_step {code = code} h s k = record { codes = code ∷ []; walk = step h s (stay k) }

  -- reachable inside c is reachable inside every prefix of c
  pub reach_prefix : {d c x y : ℕ} → Below parent d c → Reach parent rules c x y → Reach parent rules d x y
  reach_prefix d a = record { codes = a.codes; walk = walk_prefix d a.walk }

  pub reach_start : {c x y : ℕ} → Reach parent rules c x y → Below parent c x
  reach_start a = walk_start a.walk

  pub reach_end : {c x y : ℕ} → Reach parent rules c x y → Below parent c y
  reach_end a = walk_end a.walk

module _ {parent : ℕ → ℕ} {rules : List Rule} {count : ℕ} (desc : Descending parent) (within : RulesIn count rules) where
  -- a step from a path of the table leads to one
  pub step_small : {x code y : ℕ} → x < count → Step parent rules x code y → y < count
  step_small {x} l (climb h o e) = omega (arith, parent_le desc x)
  step_small l (along r ru n k o a b) = omega (arith, within.right r ru n)
  step_small l (against r ru n k o a b) = omega (arith, within.left r ru n)

  -- a walk from a path of the table ends at one
  pub walk_small : {c x y : ℕ} {codes : List ℕ} → x < count → Walk parent rules c x codes y → y < count
  walk_small l (stay h) = l
  walk_small l (step h s w) = walk_small (step_small l s) w
