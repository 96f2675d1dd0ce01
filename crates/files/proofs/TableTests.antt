-- The test behind refusal 12 holds exactly where the table handed in is valid.
use Prim.Native.Nat.{ℕ, suc, ◌+◌, ◌-◌, ◌^◌, ◌<◌, ◌≤◌}
use mathlib.Core.Path.{◌≡◌, sym, subst, ◌∙◌}
use mathlib.Core.Logic.{◌↔◌, ⊎_elim}
use mathlib.Core.Bool.{true}
use mathlib.Core.List.Memᴰ
use mathlib.Core.List.{List, Memᴰ}
use native.Mathlib.Decide.{dec_lt, ℕ_discrete}
use native.Mathlib.Omega.{arith}
use lib.ListN.{length, get_or}
use lib.Dec.{ltb, eqb}
use borrow.Author.Tests.{lt-ltb, eq-eqb, ltb-true, eqb-true}
use Rattle.files.specs.declared.rules.Rules.{Rules}
use Rattle.files.specs.Number.{limit}
use Rattle.files.specs.RuleFile.{between}
use Rattle.files.specs.Rules.{rules_of, ValidTable}
use Rattle.files.specs.Sets.{Has, common, difference, below_all, members, Ascending, none, next}
use Rattle.files.specs.TableTest.{both, required_pass, paths_valid, rules_valid, table_passes}
use Rattle.files.proofs.FileParts.{Within}
use Rattle.files.proofs.Passing.{both_true, both_made}
use Rattle.files.proofs.Rows.{between_passes}
use Rattle.files.proofs.SetBits.{bit_absent, bit_of_zero, bit_pow_same, bit_pow_other, bit_below_out, not_has, same_bits, has_common, has_difference, has_below, common_lt, difference_lt}
use Rattle.files.proofs.SetMembers.{mem_members, members_ascending}
use Rattle.files.proofs.Tables.{paths_length, rules_length}
use Rattle.files.proofs.ValidTables.{valid_passing, passing_valid}

-- ---- required paths

-- a word without a path is 0
no_paths : (w : ℕ) → w < 2 ^ 64 → ((i : ℕ) → ¬ Has w i) → w ≡ 0
no_paths w f n = same_bits 64 w 0 f (omega arith) (λ i h. bit_absent w i (n i) ∙ sym (bit_of_zero i))

paths_none : (w i : ℕ) → w ≡ 0 → ¬ Has w i
paths_none w i e h = not_has (bit_of_zero i) (subst (λ (v : ℕ). Has v i) e h)

-- ascending numbers are at least the first bound
pub ascending_from : {low : ℕ} {l : List ℕ} → Ascending low l → (x : ℕ) → Memᴰ x l → low ≤ x
ascending_from none x m = absurd (Memᴰ.not-nil m)
ascending_from (next {x = y} h a) x m =
    ⊎_elim (λ (e : x ≡ y). omega arith) (λ r. omega (arith, ascending_from a x r)) (Memᴰ.cases_cons m)

ascending_past : {low : ℕ} {l : List ℕ} → Ascending low l → (Memᴰ low l → ⊥) → Ascending (suc low) l
ascending_past none n = none
ascending_past {low} (next {x = x} h a) n = next {x = x} (by (ℕ_discrete low x)) a
  where
    by : Dec (low ≡ x) → suc low ≤ x
    by (yes e) = absurd (n (Memᴰ.head e))
    by (no d) = omega arith

module _ (count w : ℕ) (f : w < 2 ^ 64) where
  root_out : common w 1 ≡ 0 → ¬ Has w 0
  root_out e h = paths_none (common w 1) 0 e ((has_common w 1 0).1 (h, record { one = bit_pow_same 0 }))

  out_root : ¬ Has w 0 → common w 1 ≡ 0
  out_root n = no_paths (common w 1) (common_lt w 1 f) (λ i h. by i ((has_common w 1 i).0 h) (ℕ_discrete i 0))
    where
      by : (i : ℕ) → Has w i × Has 1 i → Dec (i ≡ 0) → ⊥
      by i h (yes e) = n (subst (Has w) e h.0)
      by i h (no d) = not_has (bit_pow_other 0 i d) h.1

  all_below : difference w (below_all count) ≡ 0 → (i : ℕ) → Has w i → i < count
  all_below e i h = by (dec_lt i count)
    where
      by : Dec (i < count) → i < count
      by (yes l) = l
      by (no l) = absurd (paths_none _ i e ((has_difference w (below_all count) i).1 (h, bit_below_out count i (omega arith))))

  below_all_lem : count ≤ 64 → ((i : ℕ) → Has w i → i < count) → difference w (below_all count) ≡ 0
  below_all_lem few h =
      no_paths _ (difference_lt w (below_all count) f)
      (λ i d.
      let a = (has_difference w (below_all count) i).0 d in
      let l : i < count = h i a.0 in
      not_has a.1 ((has_below count i).1 (l, omega arith)))

  -- the required paths pass exactly where they are in the table and the root is none of them
  pub required_passes : count ≤ 64 → (required_pass count w ≡ true) ↔ (Ascending 1 (members w) × Within count (members w))
  unfolding required_pass
  required_passes few = (only, made)
    where
      only : both (eqb (common w 1) 0) (eqb (difference w (below_all count)) 0) ≡ true → Ascending 1 (members w) × Within count (members w)
      only e =
          let b = both_true (eqb (common w 1) 0) _ e in (
            ascending_past (members_ascending w) (λ m. root_out (eqb-true (common w 1) 0 b.0) ((mem_members w 0 f).0 m)),
            λ x m. all_below (eqb-true (difference w (below_all count)) 0 b.1) x ((mem_members w x f).0 m),
          )

      made : Ascending 1 (members w) × Within count (members w) → both (eqb (common w 1) 0) (eqb (difference w (below_all count)) 0) ≡ true
      made h =
          both_made _ _
          (eq-eqb (common w 1) 0 (out_root (λ z. omega (arith, ascending_from h.0 0 ((mem_members w 0 f).1 z)))))
          (eq-eqb (difference w (below_all count)) 0 (below_all_lem few (λ i z. h.1 i ((mem_members w i f).1 z))))

-- ---- the whole table

module _ (t : Rules) (f : t.required < 2 ^ 64) where
  -- as many paths as the table says, the root among them
  as_many : 0 < t.paths → 1 + length (rules_of t).paths ≡ t.paths
  unfolding rules_of
  as_many some = omega (arith, paths_length t.parent t.label 1 (t.paths - 1))

  many_rules : length (rules_of t).rules ≡ t.rules
  unfolding rules_of
  many_rules = rules_length t.kind t.left t.right 0 t.rules

  passes_only : table_passes t ≡ true → ValidTable t
  unfolding table_passes paths_valid rules_valid rules_of
  passes_only e =
      let p = both_true (paths_valid t.parent t.label t.paths) _ e in
      let a = both_true (eqb (between 1 65 3 t.paths) 0) _ p.0 in
      let b = both_true (ltb (get_or t.label 0 0) limit) _ a.1 in
      let d = both_true (required_pass t.paths t.required) _ p.1 in
      let g = both_true (eqb (between 0 257 8 t.rules) 0) _ d.1 in
      let count = (between_passes 1 65 3 t.paths (omega arith)).0 (eqb-true _ 0 a.0) in
      let same = as_many count.0 in
      let req = (required_passes t.paths t.required f (omega (arith, count.1))).0 d.0 in
      let rules = (between_passes 0 257 8 t.rules (omega arith)).0 (eqb-true _ 0 g.0) in
      record {
        some = count.0;
        valid =
            passing_valid (rules_of t)
            (record {
              count = omega (arith, count.1);
              root = ltb-true (get_or t.label 0 0) limit b.0;
              paths = b.1;
              required = req.0;
              present = λ x m. omega (arith, req.1 x m);
              many = omega (arith, rules.1, many_rules);
              rules = rw same g.1;
            });
      }

  only_passes : ValidTable t → table_passes t ≡ true
  unfolding table_passes paths_valid rules_valid rules_of
  only_passes v =
      let p = valid_passing (rules_of t) v.valid in
      let same = as_many v.some in
      let few : t.paths ≤ 64 = omega (arith, p.count) in
      both_made _ _
      (both_made _ _ (eq-eqb _ 0 ((between_passes 1 65 3 t.paths (omega arith)).1 (omega (arith, v.some), omega arith)))
      (both_made _ _ (lt-ltb (get_or t.label 0 0) limit p.root) p.paths))
      (both_made _ _
      ((required_passes t.paths t.required f few).1 (p.required, λ x m. omega (arith, p.present x m)))
      (both_made _ _ (eq-eqb _ 0 ((between_passes 0 257 8 t.rules (omega arith)).1 (omega arith, omega (arith, p.many, many_rules))))
      (rw same at p.rules)))

  -- the test behind refusal 12 holds exactly where the table is valid
  pub passes_valid : (table_passes t ≡ true) ↔ ValidTable t
  passes_valid = (passes_only, only_passes)
