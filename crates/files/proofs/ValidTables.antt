-- A table breaks no condition of 01 exactly where all of its tests pass.
use Prim.Native.Nat.{ℕ, zero, suc, ◌+◌, ◌<◌, ◌≤◌}
use mathlib.Core.Path.{◌≡◌, sym, subst, ◌∙◌}
use mathlib.Core.Bool.{true}
use mathlib.Core.List.{List, [], ◌∷◌, ◌++◌, Memᴰ}
use native.Mathlib.Omega.{arith}
use lib.ListN.{length, get_or, length-append}
use Rattle.files.specs.Number.{limit}
use Rattle.files.specs.RuleFile.{depths}
use Rattle.files.specs.Sets.{Ascending}
use Rattle.files.specs.Table.{Path, Rule, Numbered, RuleSet, labels, parent_in, Depth, Valid}
use Rattle.files.specs.TableTest.{paths_pass, rules_pass}
use Rattle.files.proofs.Depths.{At, at, at_place, parent_there, parent_before, label_there, label_before, depths_there, depths_root, Smaller, depth_only, depth_is}
use Rattle.files.proofs.Passing.{PathGood, paths_each, paths_made, RuleGood, rules_each, rules_made}
use Rattle.files.proofs.Rows.{row_6}

-- the conditions of 01 on the paths of a table
pub record Kept (root : ℕ) (ps : List Path) : Type 0 where
  pub smaller : Smaller ps
  pub depth : (x d : ℕ) → x < 1 + length ps → Depth ps x d → d ≤ 8
  pub distinct : (x y : ℕ) → 0 < x → x < y → y < 1 + length ps → parent_in ps x ≡ parent_in ps y
      → get_or (labels root ps) x 0 ≡ get_or (labels root ps) y 0 → ⊥
  pub label : (x : ℕ) → x < 1 + length ps → get_or (labels root ps) x 0 < limit

good_kept : (root : ℕ) (before : List Path) (p : Path) (after : List Path) → Kept root (before ++ (p ∷ after)) → PathGood before p
good_kept root before p after k =
    let all : List Path = before ++ (p ∷ after) in
    let own : ℕ = suc (length before) in
    let h : own < 1 + length all = omega (arith, length-append before (p ∷ after)) in
    record {
      smaller = omega (arith, parent_there before p after, k.smaller own (omega arith) h);
      shallow = omega (arith, depths_there before p after, k.depth own (get_or (depths all) own 0) h (depth_is all k.smaller own h));
      new =
          (row_6 root p.parent p.label before).passed.1
          (λ r.
          k.distinct r.path own r.other (omega (arith, r.earlier)) h
          (parent_before before p after r.path r.earlier ∙ r.parent ∙ sym (parent_there before p after))
          (label_before before p after root r.path r.earlier ∙ r.label ∙ sym (label_there before p after root)));
      label = omega (arith, label_there before p after root, k.label own h);
    }

kept_passes : (root : ℕ) (ps : List Path) → Kept root ps → paths_pass [] ps ≡ true
kept_passes root ps k = paths_made [] ps (λ before p after e. good_kept root before p after (subst (Kept root) e k))

-- paths that pass their tests
module _ (ps : List Path) (ok : paths_pass [] ps ≡ true) where
  pub passed_smaller : Smaller ps
  passed_smaller x pos h = by (at_place ps x pos h) ok
    where
      by : {qs : List Path} {y : ℕ} → At qs y → paths_pass [] qs ≡ true → parent_in qs y < y
      by (at before p after) t =
          omega (arith, parent_there before p after, (paths_each [] before p after t).smaller)

  pub passed_depth : (x d : ℕ) → x < 1 + length ps → Depth ps x d → d ≤ 8
  passed_depth x d h m = omega (arith, depth_only ps passed_smaller m h, low x h)
    where
      by : {qs : List Path} {y : ℕ} → At qs y → paths_pass [] qs ≡ true → get_or (depths qs) y 0 ≤ 8
      by (at before p after) t = omega (arith, depths_there before p after, (paths_each [] before p after t).shallow)

      low : (y : ℕ) → y < 1 + length ps → get_or (depths ps) y 0 ≤ 8
      low zero l = omega (arith, depths_root ps)
      low (suc i) l = by (at_place ps (suc i) (omega arith) l) ok

  module _ (root : ℕ) where
    passed_distinct : (x y : ℕ) → 0 < x → x < y → y < 1 + length ps → parent_in ps x ≡ parent_in ps y
        → get_or (labels root ps) x 0 ≡ get_or (labels root ps) y 0 → ⊥
    passed_distinct x y pos l h = by (at_place ps y (omega arith) h) ok l
      where
        by : {qs : List Path} {z : ℕ} → At qs z → paths_pass [] qs ≡ true → x < z → parent_in qs x ≡ parent_in qs z
            → get_or (labels root qs) x 0 ≡ get_or (labels root qs) z 0 → ⊥
        by (at before p after) t m e f =
            (row_6 root p.parent p.label before).passed.0 (paths_each [] before p after t).new
            (record {
              path = x;
              other = pos;
              earlier = omega arith;
              parent = sym (parent_before before p after x (omega arith)) ∙ e ∙ parent_there before p after;
              label = sym (label_before before p after root x (omega arith)) ∙ f ∙ label_there before p after root;
            })

    passed_label : root < limit → (x : ℕ) → x < 1 + length ps → get_or (labels root ps) x 0 < limit
    passed_label small zero h = small
    passed_label small (suc i) h = by (at_place ps (suc i) (omega arith) h) ok
      where
        by : {qs : List Path} {z : ℕ} → At qs z → paths_pass [] qs ≡ true → get_or (labels root qs) z 0 < limit
        by (at before p after) t = omega (arith, label_there before p after root, (paths_each [] before p after t).label)

    passed_kept : root < limit → Kept root ps
    passed_kept small =
        record { smaller = passed_smaller; depth = passed_depth; distinct = passed_distinct; label = passed_label small }

-- the tests of a rule set, all passed
pub record Passing (r : RuleSet) : Type 0 where
  pub count : 1 + length r.paths ≤ 64
  pub root : r.root < limit
  pub paths : paths_pass [] r.paths ≡ true
  pub required : Ascending 1 r.required
  pub present : (x : ℕ) → Memᴰ x r.required → x < 1 + length r.paths
  pub many : length r.rules ≤ 256
  pub rules : rules_pass (1 + length r.paths) r.rules ≡ true

pub valid_passing : (r : RuleSet) → Valid r → Passing r
valid_passing r v =
    record {
      count = v.paths;
      root = v.label 0 (omega arith);
      paths =
          kept_passes r.root r.paths
          (record { smaller = v.smaller; depth = v.depth; distinct = v.distinct; label = v.label });
      required = v.required;
      present = v.present;
      many = v.rules;
      rules =
          rules_made (1 + length r.paths) r.rules
          (λ n ru m. record { some = (v.kind n ru m).0; known = (v.kind n ru m).1; left = v.left n ru m; right = v.right n ru m });
    }

pub passing_valid : (r : RuleSet) → Passing r → Valid r
passing_valid r t =
    let k = passed_kept r.paths t.paths r.root t.root in
    let each : (n : ℕ) (ru : Rule) → Numbered r.rules n ru → RuleGood (1 + length r.paths) ru =
    λ n ru m. rules_each (1 + length r.paths) m t.rules in
    record {
      paths = t.count;
      smaller = k.smaller;
      depth = k.depth;
      distinct = k.distinct;
      label = k.label;
      required = t.required;
      present = t.present;
      rules = t.many;
      kind = λ n ru m. ((each n ru m).some, (each n ru m).known);
      left = λ n ru m. (each n ru m).left;
      right = λ n ru m. (each n ru m).right;
    }
