-- Obeying as source document 000 defines it, by extents, is obeying as the nodes on the context hold paths.
use Prim.Native.Nat.{ℕ}
use mathlib.Core.Path.{refl, sym, subst, ◌∙◌}
use mathlib.Core.Logic.{◌↔◌}
use Rattle.documents.specs.Paths.{Context}
use Rattle.documents.specs.Tree.{Forest, Node, here, deeper, beside, Holds, NodeHolds, itself, descendant}
use Rattle.documents.specs.Obey.{Implication, Absence}
use Rattle.documents.specs.Extent.{
  Occurrence,
  StandsUnder,
  found,
  lower,
  further,
  InExtent,
  InDext,
  above,
  equal,
  PathImplication,
  PathAbsence,
}
use Rattle.documents.proofs.Tree.{node_holds, holds_node}

-- what stands under a place is a node of the forest under it
under_node : {x y : ℕ} {u v f : Forest} {n : Node x u f} {m : Node y v f} → StandsUnder f n m → Node y v u
under_node (found m) = m
under_node (lower s) = under_node s
under_node (further s) = under_node s

-- a node of the forest under a place stands under it
node_under : {x y : ℕ} {u v f : Forest} (n : Node x u f) → Node y v u → (m : Node y v f) × StandsUnder f n m
node_under here m = (deeper m, found m)
node_under (deeper n) m = let s = node_under n m in (deeper s.0, lower s.1)
node_under (beside n) m = let s = node_under n m in (beside s.0, further s.1)

-- a node in the extent of c is in the descendant extent of c and p exactly if it holds p
pub dext_holds : {d : Forest} {c p : ℕ} (v : Occurrence d) → InExtent c v → InDext c p v ↔ NodeHolds v.path v.under p
dext_holds {d} {c} {p} v i = (into, out)
  where
    into : InDext c p v → NodeHolds v.path v.under p
    into (above j h) =
        descendant (subst (λ (z : ℕ). Holds v.under z) h.member.on (node_holds (under_node h.descendant.under)))
    into (equal e j) = itself (j.on ∙ e)

    out : NodeHolds v.path v.under p → InDext c p v
    out (itself e) = equal (sym i.on ∙ e) i
    out (descendant h) =
        let n = holds_node v.under p h in
        let m = node_under v.place n.1 in
        above i (record {
          node = record { path = p; under = n.0; place = m.0 };
          descendant = record { under = m.1 };
          member = record { on = refl };
        })

-- what is in a descendant extent is in the extent
dext_extent : {d : Forest} {c p : ℕ} {v : Occurrence d} → InDext c p v → InExtent c v
dext_extent (above i h) = i
dext_extent (equal e i) = i

module _ {parent : ℕ → ℕ} {p q : ℕ} {d : Forest} where
  -- definition 2.2 says what every node on the context that holds p says
  pub implication_extent : Implication parent p q d ↔ PathImplication parent p q d
  implication_extent = (
    λ h. record {
      included = λ c x v i.
          let e = dext_extent i in
          (dext_holds v e).1
          (h.every v.path (subst (Context parent p q) (sym e.on) x) v.under v.place ((dext_holds v e).0 i));
    },
    λ h. record {
      every = λ c x u n k.
          let v : Occurrence d = record { path = c; under = u; place = n } in
          let e : InExtent c v = record { on = refl } in
          (dext_holds v e).0 (h.included c x v ((dext_holds v e).1 k));
    },
  )

  -- definition 2.3 says that no node on the context holds both
  pub absence_extent : Absence parent p q d ↔ PathAbsence parent p q d
  absence_extent = (
    λ h. record {
      disjoint = λ c x v i j.
          let e = dext_extent i in
          h.never v.path (subst (Context parent p q) (sym e.on) x) v.under v.place ((dext_holds v e).0 i) ((dext_holds v e).0 j);
    },
    λ h. record {
      never = λ c x u n k l.
          let v : Occurrence d = record { path = c; under = u; place = n } in
          let e : InExtent c v = record { on = refl } in
          h.disjoint c x v ((dext_holds v e).1 k) ((dext_holds v e).1 l);
    },
  )
