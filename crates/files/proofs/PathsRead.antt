-- Laws of the loop that reads the paths of a table.
use Prim.Native.Nat.{ℕ, suc, ◌+◌, ◌-◌, ◌<◌, ◌≤◌}
use mathlib.Core.Path.{◌≡◌, refl, sym, ap, subst, ◌∙◌}
use mathlib.Core.List.{List, [], ◌∷◌, ◌++◌}
use native.Mathlib.Omega.{arith}
use lib.ListN.{get_or, set, replicate, length-map}
use Rattle.std.specs.Prelude.{Ok, Err}
use Rattle.files.specs.declared.read.OnePath.{OnePath}
use Rattle.files.specs.declared.reader.Reader.{Reader}
use Rattle.files.specs.declared.refusal.Refusal.{Refusal}
use Rattle.files.specs.Format.{done, and_then}
use Rattle.files.specs.Readers.{Reads}
use Rattle.files.specs.Reading.{PathIs, PathsIn}
use Rattle.files.specs.RuleFile.{one_path, more_paths, deeper, depths}
use Rattle.files.specs.Rules.{paths_from, padded}
use Rattle.files.specs.Table.{Path, parents, labels}
use Rattle.files.proofs.Depths.{depths_snoc, depths_length}
use Rattle.files.proofs.Padded.{padded_get, padded_store}
use Rattle.files.proofs.Readers.{SoFar, so_start, so_out, so_next, so_end}
use Rattle.files.proofs.Tables.{map_snoc, paths_padded}

paths_none : (l : List Path) → more_paths 0 l ≡ done l
unfolding more_paths
paths_none l = refl

paths_some : (k : ℕ) (l : List Path) → more_paths (suc k) l ≡ and_then (one_path l) (λ p. more_paths k (l ++ (p ∷ [])))
unfolding more_paths
paths_some k l = refl

-- paths 1 to x - 1 are in the arrays
pub record PathsSoFar (old now : Reader) (count root : ℕ) (parent label depth : List ℕ) (x : ℕ) : Type 0 where
  pub ps : List Path
  pub read : SoFar more_paths old now (count - 1) (x - 1) ps
  pub some : 1 ≤ x
  pub in_parent : parent ≡ padded 64 (parents ps)
  pub in_label : label ≡ padded 64 (labels root ps)
  pub in_depth : depth ≡ padded 64 (depths ps)

pub paths_start : (old : Reader) (count root : ℕ) → PathsSoFar old old count root (replicate 64 0) (set (replicate 64 0) 0 root) (set (replicate 64 0) 0 1) 1
unfolding padded depths deeper
paths_start old count root =
    record { ps = []; read = so_start one_path more_paths paths_none paths_some old (count - 1); some = omega arith; in_parent = refl; in_label = refl; in_depth = refl }

module _ (old now : Reader) (count root : ℕ) (parent label depth : List ℕ) (x : ℕ) (inv : PathsSoFar old now count root parent label depth x) where
  -- the arrays stand for the paths so far
  same_paths : paths_from parent label 1 (x - 1) ≡ inv.ps
  same_paths = ap (paths_from parent label 1) (sym inv.read.count) ∙ paths_padded parent label root inv.ps inv.in_parent inv.in_label

  pub paths_depths : depth ≡ padded 64 (depths (paths_from parent label 1 (x - 1)))
  paths_depths = rw same_paths inv.in_depth

  module _ (left : x < count) (new : Reader) where
    pub paths_refused : (holds : Unit {0} → List Path → Type 0) (e : Refusal) → Reads (PathIs depth) (one_path (paths_from parent label 1 (x - 1))) now new (Err e)
        → Reads holds (more_paths (count - 1) []) old new (Err e)
    paths_refused holds e r =
        so_out one_path more_paths paths_none paths_some old now (count - 1) (x - 1) inv.ps inv.read (PathIs depth) (omega (arith, inv.some)) new holds e (rw same_paths at r)

    pub paths_more : (v : OnePath) → count ≤ 64 → Reads (PathIs depth) (one_path (paths_from parent label 1 (x - 1))) now new (Ok v)
        → PathsSoFar old new count root (set parent x v.parent) (set label x v.label) (set depth x v.depth) (x + 1)
    paths_more v most r =
        let here : Reads (PathIs depth) (one_path inv.ps) now new (Ok v) = rw same_paths at r in
        let q : Path = here.answer.0 in
        let is : PathIs depth v q = here.answer.2 in
        let next : x - 1 + 1 ≡ x + 1 - 1 = omega (arith, inv.some) in
        record {
          ps = inv.ps ++ (q ∷ []);
          read = subst (λ (k : ℕ). SoFar more_paths old new (count - 1) k (inv.ps ++ (q ∷ []))) next
              (so_next one_path more_paths paths_none paths_some old now (count - 1) (x - 1) inv.ps inv.read (PathIs depth) (omega (arith, inv.some)) new v here);
          some = omega arith;
          in_parent =
              rw (inv.in_parent, is.parent)
              (padded_store 64 (parents inv.ps) x q.parent (omega (arith, length-map inv.ps (λ (t : Path). t.parent), inv.read.count, inv.some)) (omega arith)
              ∙ ap (λ (t : List ℕ). padded 64 (0 ∷ t)) (sym (map_snoc (λ (t : Path). t.parent) inv.ps q)));
          in_label =
              rw (inv.in_label, is.label)
              (padded_store 64 (labels root inv.ps) x q.label (omega (arith, length-map inv.ps (λ (t : Path). t.label), inv.read.count, inv.some)) (omega arith)
              ∙ ap (λ (t : List ℕ). padded 64 (root ∷ t)) (sym (map_snoc (λ (t : Path). t.label) inv.ps q)));
          in_depth =
              let deep : v.depth ≡ 1 + get_or (depths inv.ps) q.parent 0 =
              is.depth ∙ ap (λ (t : List ℕ). 1 + get_or t q.parent 0) inv.in_depth ∙ ap (λ (k : ℕ). 1 + k) (padded_get 64 (depths inv.ps) q.parent) in
              rw (inv.in_depth, deep)
              (padded_store 64 (depths inv.ps) x _ (omega (arith, depths_length inv.ps, inv.read.count, inv.some)) (omega arith)
              ∙ ap (padded 64) (sym (depths_snoc inv.ps q)));
        }

  pub paths_end : 1 ≤ count → count ≤ x → x ≤ count
      → Reads (λ (u : Unit {0}). PathsIn count parent label root) (more_paths (count - 1) []) old now (Ok tt)
  paths_end least h l =
      so_end one_path more_paths paths_none paths_some old now (count - 1) (x - 1) inv.ps inv.read (λ (u : Unit {0}). PathsIn count parent label root) tt (omega arith)
      (record { many = omega (arith, inv.read.count); in_parent = inv.in_parent; in_label = inv.in_label })

pub ruleset paths_laws = (paths_start, paths_depths, paths_refused, paths_more, paths_end)
