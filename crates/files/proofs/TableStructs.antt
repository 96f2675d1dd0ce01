-- The struct that reading hands back stands for the rule set that was read, and is a valid table.
use Prim.Native.Nat.{ℕ, suc, ◌+◌, ◌-◌, ◌^◌, ◌<◌}
use mathlib.Core.Path.{◌≡◌, refl, sym, ap, subst, ◌∙◌}
use mathlib.Core.Logic.{⊎_elim}
use mathlib.Core.List.{List, [], ◌∷◌, ◌++◌, map, append-nil, Memᴰ}
use native.Mathlib.Omega.{arith}
use lib.ListN.{length, get_or}
use lib.Seq.{append_snoc}
use Rattle.files.specs.declared.rules.Rules.{Rules}
use Rattle.files.specs.RuleFile.{file_of}
use Rattle.files.specs.Rules.{paths_from, rules_from, padded, rules_of, ValidTable, add_all, table_of}
use Rattle.files.specs.Sets.{Has, with_path, members, Ascending, none, next}
use Rattle.files.specs.Table.{Rule, RuleSet, parents, labels, Valid}
use Rattle.files.specs.Writing.{put, write_answer}
use Rattle.files.proofs.Padded.{padded_get}
use Rattle.files.proofs.SetBits.{bit_of_zero, not_has, has_with, with_lt}
use Rattle.files.proofs.SetMembers.{members_of_zero, members_with}
use Rattle.files.proofs.Tables.{paths_back, rules_back}
use Rattle.files.proofs.TableTests.{passes_valid}

-- ---- the word of required paths

members_add_all : (w low : ℕ) {xs : List ℕ} → ((j : ℕ) → Has w j → j < low) → Ascending low xs → ((x : ℕ) → Memᴰ x xs → x < 64)
    → members (add_all w xs) ≡ members w ++ xs
unfolding add_all
members_add_all w low under none few = sym (append-nil (members w))
members_add_all w low under (next {x = x} {rest = rest} h a) few =
    let small : x < 64 = few x (Memᴰ.head refl) in
    let above : (j : ℕ) → Has w j → j < x = λ j m. omega (arith, under j m) in
    let then : (j : ℕ) → Has (with_path w x) j → j < suc x =
    λ j m. ⊎_elim (λ (e : j ≡ x). omega arith) (λ (n : Has w j). omega (arith, above j n)) ((has_with w x j small).0 m) in
    members_add_all (with_path w x) (suc x) then a (λ y m. few y (Memᴰ.tail m))
    ∙ ap (λ (l : List ℕ). l ++ rest) (members_with w x small above)
    ∙ append_snoc (members w) x rest

pub add_all_lt : (w : ℕ) (xs : List ℕ) → w < 2 ^ 64 → add_all w xs < 2 ^ 64
unfolding add_all
add_all_lt w [] f = f
add_all_lt w (x ∷ xs) f = add_all_lt (with_path w x) xs (with_lt w x f)

-- ---- the whole struct

-- the struct of a valid rule set stands for it
pub rules_of_table : (r : RuleSet) → Valid r → rules_of (table_of r) ≡ r
unfolding rules_of table_of
rules_of_table r v = λ i. record { root = root i; paths = paths i; required = required i; rules = rules i }
  where
    root : get_or (padded 64 (labels r.root r.paths)) 0 0 ≡ r.root
    root = padded_get 64 (labels r.root r.paths) 0

    shift : (l : List ℕ) (i : ℕ) (v : ℕ) → get_or (padded 64 (v ∷ l)) (1 + i) 0 ≡ get_or l i 0
    shift l i v = padded_get 64 (v ∷ l) (1 + i) ∙ (let e : 1 + i ≡ suc i = omega arith in ap (λ (k : ℕ). get_or (v ∷ l) k 0) e)

    paths : paths_from (padded 64 (parents r.paths)) (padded 64 (labels r.root r.paths)) 1 (1 + length r.paths - 1) ≡ r.paths
    paths =
        (let e : 1 + length r.paths - 1 ≡ length r.paths = omega arith in
        ap (paths_from (padded 64 (parents r.paths)) (padded 64 (labels r.root r.paths)) 1) e)
        ∙ paths_back (padded 64 (parents r.paths)) (padded 64 (labels r.root r.paths)) 1 r.paths
        (λ i. shift _ i 0) (λ i. shift _ i r.root)

    required : members (add_all 0 r.required) ≡ r.required
    required =
        members_add_all 0 1 (λ j m. absurd (not_has (bit_of_zero j) m)) v.required (λ x m. omega (arith, v.present x m, v.paths))
        ∙ ap (λ (l : List ℕ). l ++ r.required) members_of_zero

    at : (l : List ℕ) (i : ℕ) → get_or (padded 256 l) (0 + i) 0 ≡ get_or l i 0
    at l i = padded_get 256 l (0 + i) ∙ (let e : 0 + i ≡ i = omega arith in ap (λ (k : ℕ). get_or l k 0) e)

    rules : rules_from (padded 256 (map (λ (ru : Rule). ru.kind) r.rules)) (padded 256 (map (λ (ru : Rule). ru.left) r.rules))
        (padded 256 (map (λ (ru : Rule). ru.right) r.rules)) 0 (length r.rules) ≡ r.rules
    rules = rules_back _ _ _ 0 r.rules (λ i. at _ i) (λ i. at _ i) (λ i. at _ i)

-- so it is a valid table, and its word is one
pub table_valid : (r : RuleSet) → Valid r → ValidTable (table_of r)
unfolding table_of
table_valid r v = record { some = omega arith; valid = subst Valid (sym (rules_of_table r v)) v }

pub table_word : (r : RuleSet) → (table_of r).required < 2 ^ 64
unfolding table_of
table_word r = add_all_lt 0 r.required (omega arith)

-- a valid table is put into the buffer as its file
pub write_valid : (t : Rules) → t.required < 2 ^ 64 → ValidTable t → (out : List ℕ) → write_answer t out ≡ put (file_of (rules_of t)) out
unfolding write_answer
write_valid t f v out = rw ((passes_valid t f).1 v)
