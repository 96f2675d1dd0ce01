-- Source document 000 is wrong where a chain of rules leaves the context and comes back: its transitivity (proposition 2.5), its
-- theorem 3.11 and its consistency test (theorem 3.7, algorithm 3.9), each by a document of table T.
use Prim.Native.Nat.{ℕ, zero, suc, ◌≤◌, ◌<◌}
use mathlib.Core.Path.{refl, sym}
use mathlib.Core.Logic.{inl}
use mathlib.Core.List.{List, [], ◌∷◌, Memᴰ}
use native.Mathlib.Omega.{arith}
use lib.Dec.{T, lit≤}
use Rattle.files.specs.Table.{Rule, Numbered, first, later, parent_in}
use Rattle.documents.specs.Paths.{Descending, depth_of}
use Rattle.documents.specs.Tree.{Forest, Document}
use Rattle.documents.specs.Obey.{Implication}
use Rattle.theory.specs.Walk.{along}
use Rattle.theory.specs.Follows.{Implied, Consistent}
use Rattle.theory.specs.Reachable.{Fits}
use Rattle.theory.specs.Decide.{asked_in}
use Rattle.theory.specs.Evidence.{impliesb, consistentb}
use Rattle.theory.specs.Examples.{implies, excludes, paths_t, rules_e1, rules_e2}
use Rattle.theory.specs.Graph.{ImplicationPath, empty, edge, straight, GraphInconsistent, implied, Mentioned, left, right}
use Rattle.theory.proofs.Answers.{implies_every, consistent_some}
use Rattle.theory.proofs.HandedDocuments.{begins_implication, document_tree, implication_document}
use Rattle.theory.proofs.Computing.{computing}

-- the parents of table T
abbrev parent_t : ℕ → ℕ
parent_t = parent_in paths_t

descending_t : Descending parent_t
descending_t = record { root = refl; smaller = less }
  where
    less : (x : ℕ) → 0 < x → parent_t x < x
    less zero p = absurd (omega arith)
    less (suc zero) p = omega arith
    less (suc (suc zero)) p = omega arith
    less (suc (suc (suc zero))) p = omega arith
    less (suc (suc (suc (suc zero)))) p = omega arith
    less (suc (suc (suc (suc (suc x))))) p = omega arith

shallow_t : (x : ℕ) → x < 5 → depth_of parent_t x ≤ 8
unfolding computing
shallow_t zero l = lit≤ tt
shallow_t (suc zero) l = lit≤ tt
shallow_t (suc (suc zero)) l = lit≤ tt
shallow_t (suc (suc (suc zero))) l = lit≤ tt
shallow_t (suc (suc (suc (suc zero)))) l = lit≤ tt
shallow_t (suc (suc (suc (suc (suc x))))) l = absurd (omega arith)

fits_e1 : Fits parent_t rules_e1 5
fits_e1 = record {
  descending = descending_t;
  few = lit≤ tt;
  few_rules = lit≤ tt;
  rules_in = record { left = lefts; right = rights };
}
  where
    lefts : (r : ℕ) (ru : Rule) → Numbered rules_e1 r ru → ru.left < 5
    lefts _ ru (later (later {r = r} x10)) = elim x10 [ ]
    lefts r ru first = lit≤ tt
    lefts r ru (later first) = lit≤ tt

    rights : (r : ℕ) (ru : Rule) → Numbered rules_e1 r ru → ru.right < 5
    rights _ ru (later (later {r = r} x10)) = elim x10 [ ]
    rights r ru first = lit≤ tt
    rights r ru (later first) = lit≤ tt

fits_e2 : Fits parent_t rules_e2 5
fits_e2 = record {
  descending = descending_t;
  few = lit≤ tt;
  few_rules = lit≤ tt;
  rules_in = record { left = lefts; right = rights };
}
  where
    lefts : (r : ℕ) (ru : Rule) → Numbered rules_e2 r ru → ru.left < 5
    lefts _ ru (later (later (later {r = r} x15))) = elim x15 [ ]
    lefts r ru first = lit≤ tt
    lefts r ru (later first) = lit≤ tt
    lefts r ru (later (later first)) = lit≤ tt

    rights : (r : ℕ) (ru : Rule) → Numbered rules_e2 r ru → ru.right < 5
    rights _ ru (later (later (later {r = r} x15))) = elim x15 [ ]
    rights r ru first = lit≤ tt
    rights r ru (later first) = lit≤ tt
    rights r ru (later (later first)) = lit≤ tt

-- the paths mentioned
abbrev pub mentioned : List ℕ
mentioned = 2 ∷ 3 ∷ 4 ∷ []

in_T : (x : ℕ) → Memᴰ x mentioned → x < 5
in_T x (Memᴰ.tail (Memᴰ.tail (Memᴰ.tail x13))) = elim x13 [ ]
in_T x (Memᴰ.head e) = omega arith
in_T x (Memᴰ.tail (Memᴰ.head e)) = omega arith
in_T x (Memᴰ.tail (Memᴰ.tail (Memᴰ.head e))) = omega arith

not_implied : T (impliesb parent_t rules_e1 5 2 3) → ⊥
unfolding computing
not_implied t = t

consistent_e1 : T (consistentb parent_t rules_e1 5 (asked_in mentioned))
unfolding computing
consistent_e1 = tt

consistent_e2 : T (consistentb parent_t rules_e2 5 (asked_in mentioned))
unfolding computing
consistent_e2 = tt

-- proposition 2.5 is wrong: a document of T obeys 2>4 and 4>3 and breaks 2>3
pub chaining_fails : (d : Forest) × Document parent_t 5 d × Implication parent_t 2 4 d × Implication parent_t 4 3 d
    × (Implication parent_t 2 3 d → ⊥)
chaining_fails =
    let t = document_tree fits_e1 shallow_t (begins_implication descending_t (lit≤ tt) {p = 2} (lit≤ tt)) in
    let b = implication_document fits_e1 shallow_t 2 3 (lit≤ tt) (lit≤ tt) not_implied t.0 t.1 in (
      t.0,
      b.is_document,
      (b.obeys.each 0 (implies 2 4) first).implication refl,
      (b.obeys.each 1 (implies 4 3) (later first)).implication refl,
      b.breaks,
    )

-- 2 has an implication path to 3
path_e : (rules : List Rule) → Numbered rules 0 (implies 2 4) → Numbered rules 1 (implies 4 3) → ImplicationPath parent_t rules 2 3
path_e rules n m =
    edge (along 0 (implies 2 4) n (inl refl) refl refl refl) (edge (along 1 (implies 4 3) m (inl refl) refl refl refl) empty)

-- theorem 3.11 is wrong: E1's rules are consistent with all paths that they mention, 2 has an implication path to 3, and 2>3 does
-- not follow
pub implication_path_fails : Consistent parent_t rules_e1 5 mentioned × ImplicationPath parent_t rules_e1 2 3
    × (Implied parent_t rules_e1 5 2 3 → ⊥)
implication_path_fails = (
  (consistent_some fits_e1 mentioned (lit≤ tt) in_T).0 consistent_e1,
  path_e rules_e1 first (later first),
  λ h. not_implied ((implies_every fits_e1 2 3 (lit≤ tt) (lit≤ tt)).1 h),
)

mentions : (x : ℕ) → Mentioned rules_e2 x → Memᴰ x mentioned
mentions x (left _ ru (later (later (later {r = r} x17))) e) = elim x17 [ ]
mentions x (right _ ru (later (later (later {r = r} x18))) e) = elim x18 [ ]
mentions x (left r ru first e) = Memᴰ.head (sym e)
mentions x (left r ru (later first) e) = Memᴰ.tail (Memᴰ.tail (Memᴰ.head (sym e)))
mentions x (left r ru (later (later first)) e) = Memᴰ.head (sym e)
mentions x (right r ru first e) = Memᴰ.tail (Memᴰ.tail (Memᴰ.head (sym e)))
mentions x (right r ru (later first) e) = Memᴰ.tail (Memᴰ.head (sym e))
mentions x (right r ru (later (later first)) e) = Memᴰ.tail (Memᴰ.head (sym e))

-- theorem 3.7 and algorithm 3.9 are wrong: the graph of E2's rules is called inconsistent, and a document obeys them and holds
-- every path that they mention
pub consistency_test_fails : GraphInconsistent parent_t rules_e2 × Consistent parent_t rules_e2 5 mentioned
    × ((x : ℕ) → Mentioned rules_e2 x → Memᴰ x mentioned)
consistency_test_fails = (
  implied empty (path_e rules_e2 first (later first)) (straight 2 (excludes 2 3) (later (later first)) refl refl refl),
  (consistent_some fits_e2 mentioned (lit≤ tt) in_T).0 consistent_e2,
  mentions,
)
