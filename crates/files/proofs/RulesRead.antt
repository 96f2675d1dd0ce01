-- Laws of the loops that read the required paths and the rules.
use Prim.Native.Nat.{ℕ, suc, ◌+◌, ◌<◌, ◌≤◌}
use mathlib.Core.Path.{◌≡◌, refl, sym, ap, ◌∙◌}
use mathlib.Core.List.{List, [], ◌∷◌, ◌++◌, map}
use native.Mathlib.Omega.{arith}
use lib.ListN.{length, set, replicate, length-map}
use Rattle.std.specs.Prelude.{Ok, Err}
use Rattle.files.specs.declared.read.OneRule.{OneRule}
use Rattle.files.specs.declared.reader.Reader.{Reader}
use Rattle.files.specs.declared.refusal.Refusal.{Refusal}
use Rattle.files.specs.Format.{done, want, and_then}
use Rattle.files.specs.Readers.{Same, Reads}
use Rattle.files.specs.Reading.{RequiredAre, RuleIs, RulesIn}
use Rattle.files.specs.RuleFile.{between, one_rule, more_rules, more_ascending}
use Rattle.files.specs.Rules.{padded, add_all}
use Rattle.files.specs.Sets.{with_path}
use Rattle.files.specs.Table.{Rule}
use Rattle.files.proofs.Ascending.{AscendingSoFar, ascending_start, ascending_out, ascending_next, ascending_end}
use Rattle.files.proofs.Padded.{padded_store}
use Rattle.files.proofs.Readers.{SoFar, so_start, so_out, so_next, so_end}
use Rattle.files.proofs.Tables.{map_snoc}

-- ---- the required paths

pub add_snoc : (w : ℕ) (xs : List ℕ) (x : ℕ) → add_all w (xs ++ (x ∷ [])) ≡ with_path (add_all w xs) x
unfolding add_all
add_snoc w [] x = refl
add_snoc w (y ∷ xs) x = add_snoc (with_path w y) xs x

-- the required paths so far are in the set
pub record RequiredSoFar (old now : Reader) (count many i required last : ℕ) : Type 0 where
  pub xs : List ℕ
  pub read : AscendingSoFar old now 7 count many 0 i last xs
  pub in_set : required ≡ add_all 0 xs
  pub small : last ≤ 64

pub required_start : (old : Reader) (count many : ℕ) → RequiredSoFar old old count many 0 0 0
unfolding add_all
required_start old count many = record { xs = []; read = ascending_start old 7 count many 0; in_set = refl; small = omega arith }

module _ (old now : Reader) (count many i required last : ℕ) (inv : RequiredSoFar old now count many i required last) where
  pub required_small : last ≤ 64
  required_small = inv.small

  module _ (h : i < many) (new : Reader) where
    pub required_out : (e : Refusal) → Reads Same (want (between (last + 1) count 7) (λ (n : ℕ). done n)) now new (Err e)
        → Reads RequiredAre (more_ascending 7 count many 0 []) old new (Err e)
    required_out e r = ascending_out old now 7 count many 0 i last inv.xs inv.read h new RequiredAre e r

    pub required_next : (x w : ℕ) → Reads Same (want (between (last + 1) count 7) (λ (n : ℕ). done n)) now new (Ok x) → x ≤ 64 → w ≡ with_path required x
        → RequiredSoFar old new count many (i + 1) w x
    required_next x w r l e =
        record {
          xs = inv.xs ++ (x ∷ []);
          read = ascending_next old now 7 count many 0 i last inv.xs inv.read h new x r;
          in_set = e ∙ ap (λ (v : ℕ). with_path v x) inv.in_set ∙ sym (add_snoc 0 inv.xs x);
          small = l;
        }

  pub required_end : many ≤ i → Reads RequiredAre (more_ascending 7 count many 0 []) old now (Ok required)
  required_end h = ascending_end old now 7 count many 0 i last inv.xs inv.read RequiredAre required h inv.in_set

-- ---- the rules

rules_none : (count : ℕ) (l : List Rule) → more_rules count 0 l ≡ done l
unfolding more_rules
rules_none count l = refl

rules_some : (count k : ℕ) (l : List Rule) → more_rules count (suc k) l ≡ and_then (one_rule count) (λ ru. more_rules count k (l ++ (ru ∷ [])))
unfolding more_rules
rules_some count k l = refl

-- the first i rules are in the arrays
pub record RulesSoFar (old now : Reader) (count many : ℕ) (kind left right : List ℕ) (i : ℕ) : Type 0 where
  pub rs : List Rule
  pub read : SoFar (more_rules count) old now many i rs
  pub arrays : RulesIn kind left right rs

pub rules_start : (old : Reader) (count many : ℕ)
    → RulesSoFar old old count many (replicate 256 0) (replicate 256 0) (replicate 256 0) 0
unfolding padded
rules_start old count many =
    record {
      rs = [];
      read = so_start (λ rs. one_rule count) (more_rules count) (rules_none count) (rules_some count) old many;
      arrays = record { in_kind = refl; in_left = refl; in_right = refl };
    }

-- one field of the rules, with one rule more
field_more : (field : Rule → ℕ) (rs : List Rule) (ru : Rule) (array : List ℕ) (i v : ℕ) → array ≡ padded 256 (map field rs) → length rs ≡ i → i < 256
    → v ≡ field ru → set array i v ≡ padded 256 (map field (rs ++ (ru ∷ [])))
field_more field rs ru array i v e n room f =
    rw (e, f)
    (padded_store 256 (map field rs) i (field ru) (omega (arith, length-map rs field)) room
    ∙ ap (padded 256) (sym (map_snoc field rs ru)))

module _ (old now : Reader) (count many : ℕ) (kind left right : List ℕ) (i : ℕ) (inv : RulesSoFar old now count many kind left right i) where
  module _ (h : i < many) (new : Reader) where
    pub rules_out : (holds : Unit {0} → List Rule → Type 0) (e : Refusal) → Reads RuleIs (one_rule count) now new (Err e)
        → Reads holds (more_rules count many []) old new (Err e)
    rules_out holds e r =
        so_out (λ rs. one_rule count) (more_rules count) (rules_none count) (rules_some count) old now many i inv.rs inv.read RuleIs h new holds e r

    pub rules_next : (v : OneRule) → many ≤ 256 → Reads RuleIs (one_rule count) now new (Ok v)
        → RulesSoFar old new count many (set kind i v.kind) (set left i v.left) (set right i v.right) (i + 1)
    rules_next v most r =
        let ru : Rule = r.answer.0 in
        let is : RuleIs v ru = r.answer.2 in
        record {
          rs = inv.rs ++ (ru ∷ []);
          read = so_next (λ rs. one_rule count) (more_rules count) (rules_none count) (rules_some count) old now many i inv.rs inv.read RuleIs h new v r;
          arrays =
              record {
                in_kind = field_more (λ (t : Rule). t.kind) inv.rs ru kind i v.kind inv.arrays.in_kind inv.read.count (omega arith) is.kind;
                in_left = field_more (λ (t : Rule). t.left) inv.rs ru left i v.left inv.arrays.in_left inv.read.count (omega arith) is.left;
                in_right = field_more (λ (t : Rule). t.right) inv.rs ru right i v.right inv.arrays.in_right inv.read.count (omega arith) is.right;
              };
        }

  pub rules_end : many ≤ i → Reads (λ (u : Unit {0}). RulesIn kind left right) (more_rules count many []) old now (Ok tt)
  rules_end h =
      so_end (λ rs. one_rule count) (more_rules count) (rules_none count) (rules_some count) old now many i inv.rs inv.read (λ (u : Unit {0}). RulesIn kind left right) tt h inv.arrays
