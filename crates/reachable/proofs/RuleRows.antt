-- What the rows of rules hold: the rule list.
use Prim.Native.Nat.{ℕ, zero, suc, ◌+◌, ◌*◌, ◌/◌, ◌%◌, ◌≤◌, ◌<◌}
use mathlib.Core.Path.{◌≡◌, refl, ap, ap₂, subst, ◌∙◌}
use mathlib.Core.List.{List, [], ◌∷◌}
use native.Mathlib.Omega.{arith}
use native.Mathlib.Numerals.{add-one}
use lib.Dec.{lit<}
use lib.ListN.{get_or, set, length}
use lib.Seq.{get_or-set_same, get_or-set_other}
use Rattle.files.specs.Table.{Rule, Numbered, first, later}
use Rattle.theory.specs.Parts.{RulesIn}
use Rattle.reachable.specs.Sheet.{rule_row_at, rules_at, rule_word, rule_said, rules_from_row, lay_list}
use Rattle.reachable.proofs.Rows.{Sheet, sheet_set}
use Rattle.reachable.proofs.Absences.{within_rest}

-- each kind fits a byte
abbrev pub Kinds : (rules : List Rule) → Type 0
Kinds rules = (r : ℕ) (ru : Rule) → Numbered rules r ru → ru.kind < 256

-- the word of a rule says that rule
module _ (k l r : ℕ) (hk : k < 256) (hl : l < 64) (hr : r < 64) where
  plain : rule_word k l r ≡ k + l * 65536 + r * 16777216
  plain = let e : k % 256 ≡ k = omega arith in rw e

  kind_said : rule_word k l r % 256 ≡ k
  kind_said = rw plain (omega arith)

  left_said : rule_word k l r / 65536 % 64 ≡ l
  left_said = rw plain (omega arith)

  right_said : rule_word k l r / 16777216 % 64 ≡ r
  right_said = rw plain (omega arith)

said : (ru : Rule) → ru.kind < 256 → ru.left < 64 → ru.right < 64 → rule_said (rule_word ru.kind ru.left ru.right) ≡ ru
said ru k l r i =
    record {
      kind = kind_said ru.kind ru.left ru.right k l r i;
      left = left_said ru.kind ru.left ru.right k l r i;
      right = right_said ru.kind ru.left ru.right k l r i;
    }

-- the rules of a list are noted from number r on
pub record Listed (rules : List Rule) (r : ℕ) (s t : List ℕ) : Type 0 where
  pub sheet : Sheet t
  pub stays : (i : ℕ) → i < rule_row_at + r → get_or t i 0 ≡ get_or s i 0
  pub many : get_or t rules_at 0 ≡ r + length rules
  pub list : Kinds rules → rules_from_row t r (length rules) ≡ rules

module _ {count : ℕ} (few : count ≤ 64) where
  pub listed : (rules : List Rule) (r : ℕ) (s : List ℕ) → RulesIn count rules → r + length rules ≤ 256 → Sheet s
      → Listed rules r s (lay_list rules r s)
  unfolding lay_list rules_from_row
  listed [] r s within room is = record {
    sheet = sheet_set is rules_at r (lit< tt) (omega arith);
    stays = λ i h. get_or-set_other s rules_at i r 0 (λ e. omega arith);
    many = get_or-set_same s rules_at r 0 (omega (arith, is.long)) ∙ omega arith;
    list = λ k. refl;
  }
  listed (ru ∷ rest) r s within room is =
      let o = listed rest (r + 1) t (within_rest within) (omega arith) is_new in record {
        sheet = o.sheet;
        stays = λ i h. o.stays i (omega arith) ∙ get_or-set_other s (rule_row_at + r) i w 0 (λ e. omega arith);
        many = o.many ∙ omega arith;
        list = λ k.
            ap₂ (λ (a : Rule) (b : List Rule). a ∷ b)
            (ap rule_said (o.stays (rule_row_at + r) (omega arith) ∙ get_or-set_same s (rule_row_at + r) w 0 (omega (arith, is.long)))
            ∙ said ru (k 0 ru first) left right)
            (subst (λ (n : ℕ). rules_from_row (lay_list rest (r + 1) t) n (length rest) ≡ rest) (add-one r) (o.list (λ n u m. k (suc n) u (later m))));
      }
    where
      left : ru.left < 64
      left = omega (arith, within.left 0 ru first)

      right : ru.right < 64
      right = omega (arith, within.right 0 ru first)

      w : ℕ
      w = rule_word ru.kind ru.left ru.right

      t : List ℕ
      t = set s (rule_row_at + r) w

      is_new : Sheet t
      is_new = sheet_set is (rule_row_at + r) w (omega arith) (omega (arith, left, right))

-- two sheets with the same row of rules have the same rules
pub rows_same : (s t : List ℕ) → ((i : ℕ) → rule_row_at ≤ i → i < rules_at → get_or s i 0 ≡ get_or t i 0) → (n r : ℕ) → r + n ≤ 256
    → rules_from_row s r n ≡ rules_from_row t r n
unfolding rules_from_row
rows_same s t same zero r h = refl
rows_same s t same (suc n) r h =
    ap₂ (λ (a : Rule) (b : List Rule). a ∷ b) (ap rule_said (same (rule_row_at + r) (omega arith) (omega arith))) (rows_same s t same n (suc r) (omega arith))
