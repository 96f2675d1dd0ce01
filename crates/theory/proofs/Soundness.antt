-- Soundness: in a document that obeys, a node holds what is reachable inside its path, a dead path does not occur, a pair
-- excludes. So the easy halves of the three equivalences.
use Prim.Native.Nat.{ℕ}
use mathlib.Core.Path.{◌≡◌, sym, subst}
use mathlib.Core.Logic.{◌⊎◌, inl, inr}
use mathlib.Core.List.{List}
use Rattle.files.specs.Table.{Rule}
use Rattle.documents.specs.Paths.{Below, Context, Descending, context_of}
use Rattle.documents.specs.Tree.{Forest, Node, Holds, NodeHolds, Document}
use Rattle.documents.specs.Obey.{Implication, Absence, Obeys, HoldsAll}
use Rattle.documents.proofs.Paths.{context_unique, context_of_context, parent_below}
use Rattle.documents.proofs.Tree.{
  node_within,
  node_holds,
  node_holds_forest,
  node_holds_trans,
  node_node_holds,
  between,
  document_under,
  document_root,
  document_node,
  document_through,
  document_between,
}
use Rattle.theory.specs.Walk.{
  Step,
  climb,
  along,
  against,
  Walk,
  stay,
  step,
  Reach,
  Dead,
  PairBy,
  Pair,
  straight,
  crossed,
}
use Rattle.theory.proofs.Walks.{walk_start}
use Rattle.theory.specs.Required.{Needed, root, listed, Conflict, pair, dead}

module _ {parent : ℕ → ℕ} {rules : List Rule} {count : ℕ} {d : Forest} (desc : Descending parent)
    (doc : Document parent count d) (obeys : Obeys parent rules d) where
  -- a node above an implication's context that holds the left side holds the right side
  implied : {c p q : ℕ} {u : Forest} → Implication parent p q d → Node c u d → NodeHolds c u p → Below parent c p → Below parent c q
      → NodeHolds c u q
  implied {c} {p} {q} i n h bp bq =
      let x = context_of_context desc p q in
      let t = between desc (document_under desc doc n) h (x.longest c bp bq) x.left in
      node_holds_trans t.node (i.every (context_of parent p q) x t.kids (node_within n t.node) t.holds)

  -- a node that holds x holds what a step from x ends at
  step_held : {c x code y : ℕ} {u : Forest} → Node c u d → NodeHolds c u x → Below parent c x → Below parent c y
      → Step parent rules x code y → NodeHolds c u y
  step_held {c} {x} {code} {y} {u} n h bx by (climb z o e) =
      let t = between desc (document_under desc doc n) h by (subst (λ (k : ℕ). Below parent k x) e (parent_below x)) in
      node_node_holds t.node
  step_held {c} {x} {code} {y} {u} n h bx by (along r ru m k o el er) = subst (λ (z : ℕ). NodeHolds c u z) er (pick k)
    where
      go : Implication parent ru.left ru.right d → NodeHolds c u ru.right
      go i = implied i n (subst (λ (z : ℕ). NodeHolds c u z) (sym el) h) (subst (λ (z : ℕ). Below parent c z) (sym el) bx)
          (subst (λ (z : ℕ). Below parent c z) (sym er) by)

      pick : (ru.kind ≡ 1) ⊎ (ru.kind ≡ 3) → NodeHolds c u ru.right
      pick (inl e) = go ((obeys.each r ru m).implication e)
      pick (inr e) = go ((obeys.each r ru m).along e)
  step_held {c} {x} {code} {y} {u} n h bx by (against r ru m k o er el) =
      subst (λ (z : ℕ). NodeHolds c u z) el
      (implied ((obeys.each r ru m).against k) n (subst (λ (z : ℕ). NodeHolds c u z) (sym er) h)
      (subst (λ (z : ℕ). Below parent c z) (sym er) bx) (subst (λ (z : ℕ). Below parent c z) (sym el) by))

  walk_held : {c x y : ℕ} {codes : List ℕ} {u : Forest} → Node c u d → NodeHolds c u x → Walk parent rules c x codes y → NodeHolds c u y
  walk_held n h (stay b) = h
  walk_held n h (step b s w) = walk_held n (step_held n h b (walk_start w) s) w

  -- a node on c that holds x holds every path reachable from x inside c
  pub reach_held : {c x y : ℕ} {u : Forest} → Node c u d → NodeHolds c u x → Reach parent rules c x y → NodeHolds c u y
  reach_held n h r = walk_held n h r.walk

  -- a document that holds x holds every path reachable from x inside the root
  pub reach_document : {x y : ℕ} → Holds d x → Reach parent rules 0 x y → Holds d y
  reach_document h r =
      let n = document_node desc doc in
      node_holds_forest n.1 (reach_held n.1 (document_root desc doc n.1 h) r)

  -- a dead path does not occur
  pub dead_absent : {p : ℕ} → Dead parent rules p → Holds d p → ⊥
  dead_absent q h =
      let b = q.by in
      let t = document_between desc doc (reach_document h b.here) b.prefix in
      ((obeys.each q.r b.ru b.rule).absence b.absence).never b.context b.is_context t.kids t.node
      (reach_held t.node t.holds b.left) (reach_held t.node t.holds b.right)

  -- no node holds both paths of a pair
  pair_by_excludes : {c p q r : ℕ} {u : Forest} → PairBy parent rules c p q r → Node c u d → NodeHolds c u p → NodeHolds c u q → ⊥
  pair_by_excludes {r = r} b n hp hq =
      let t = document_through desc doc n b.prefix in
      ((obeys.each r b.ru b.rule).absence b.absence).never b.context b.is_context t.kids t.node
      (reach_held t.node (node_holds_trans t.inside hp) b.left)
      (reach_held t.node (node_holds_trans t.inside hq) b.right)

  pub pair_excludes : {c p q : ℕ} {u : Forest} → Pair parent rules c p q → Node c u d → NodeHolds c u p → NodeHolds c u q → ⊥
  pair_excludes (straight r b) n hp hq = pair_by_excludes b n hp hq
  pair_excludes (crossed r b) n hp hq = pair_by_excludes b n hq hp

  -- an implication that is direct or whose left side is dead holds
  pub implication_sound : {p q c : ℕ} → Context parent p q c → Reach parent rules c p q ⊎ Dead parent rules p → Implication parent p q d
  implication_sound {p} {q} {c} x (inl r) =
      record { every = λ e y u n h. reach_held n h (subst (λ (z : ℕ). Reach parent rules z p q) (context_unique desc x y) r) }
  implication_sound x (inr q) = record { every = λ e y u n h. absurd (dead_absent q (node_holds_forest n h)) }

  -- an absence of which a side is dead or that a pair excludes holds
  pub absence_sound : {p q c : ℕ} → Context parent p q c → Dead parent rules p ⊎ (Dead parent rules q ⊎ Pair parent rules c p q)
      → Absence parent p q d
  absence_sound x (inl k) = record { never = λ e y u n hp hq. dead_absent k (node_holds_forest n hp) }
  absence_sound x (inr (inl k)) = record { never = λ e y u n hp hq. dead_absent k (node_holds_forest n hq) }
  absence_sound {p} {q} x (inr (inr b)) = record {
    never = λ e y u n hp hq. pair_excludes (subst (λ (z : ℕ). Pair parent rules z p q) (context_unique desc x y) b) n hp hq;
  }

  needed_held : {required : List ℕ} {x : ℕ} → HoldsAll required d → Needed required x → Holds d x
  needed_held h (root e) = subst (λ (z : ℕ). Holds d z) (sym e) (node_holds (document_node desc doc).1)
  needed_held {x = x} h (listed m) = h.each x m

  -- where the required paths conflict, no document that obeys holds them all
  pub conflict_sound : {required : List ℕ} → Conflict parent rules required → HoldsAll required d → ⊥
  conflict_sound (pair r n m b) h =
      let t = document_node desc doc in
      pair_by_excludes b t.1 (document_root desc doc t.1 (needed_held h n)) (document_root desc doc t.1 (needed_held h m))
  conflict_sound (dead n k) h = dead_absent k (needed_held h n)
