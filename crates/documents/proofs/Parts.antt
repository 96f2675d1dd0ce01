-- The laws of part systems: every list of parts unfolds to one forest, and judging the parts is judging the forest.
use Prim.Native.Nat.{ℕ, zero, suc, ◌<◌}
use mathlib.Core.Path.{◌≡◌, refl, sym, subst, ap₂}
use mathlib.Core.Logic.{inl, inr, ◌↔◌}
use mathlib.Core.List.{List, [], ◌∷◌, Memᴰ}
use native.Mathlib.Omega.{arith}
use Rattle.files.specs.Table.{Rule}
use Rattle.documents.specs.Paths.{Context}
use Rattle.documents.specs.Tree.{
  Forest,
  none,
  tree,
  Node,
  here,
  deeper,
  beside,
  Holds,
  NodeHolds,
  itself,
  descendant,
  Under,
  child,
  nothing as bare,
  Document,
  document,
}
use Rattle.documents.specs.Obey.{Implication, Absence, ObeysRule, Obeys}
use Rattle.documents.specs.Parts.{
  Unfolds,
  nothing,
  copy,
  PartHolds,
  own,
  kid,
  Named,
  given,
  further,
  Falls,
  MayStand,
  Fits,
  PartsImplication,
  PartsAbsence,
  PartsObeyRule,
  PartsObey,
}
use Rattle.documents.proofs.Tree.{node_trans, node_holds_trans, node_holds_tree, tree_node_holds}

-- a copy of a part in the forest: a node on its path over what its kids unfold to
pub record Copy {P : Type 0} (path : P → ℕ) (kids : P → List P) (p : P) (f : Forest) : Type 0 where
  pub under : Forest
  pub unfolds : Unfolds path kids (kids p) under
  pub node : Node (path p) under f

-- the named part that a node is a copy of
pub record CopyOf {P : Type 0} (path : P → ℕ) (kids : P → List P) (ps : List P) (x : ℕ) (u : Forest) : Type 0 where
  pub part : P
  pub named : Named kids ps part
  pub on : path part ≡ x
  pub unfolds : Unfolds path kids (kids part) u

-- a part of the list that holds y
pub record SomeHolds {P : Type 0} (path : P → ℕ) (kids : P → List P) (ps : List P) (y : ℕ) : Type 0 where
  pub part : P
  pub listed : Memᴰ part ps
  pub holds : PartHolds path kids part y

module _ {P : Type 0} {kids : P → List P} where
  -- a part named by a named part's kids is named
  pub named_trans : {ps : List P} {p q : P} → Named kids ps p → Named kids (kids p) q → Named kids ps q
  named_trans {p = p} n (given m) = further p n m
  named_trans n (further k r m) = further k (named_trans n r) m

  -- a part named from a list is named from a longer one
  named_later : {ps : List P} {p q : P} → Named kids ps q → Named kids (p ∷ ps) q
  named_later (given m) = given (Memᴰ.tail m)
  named_later (further k n m) = further k (named_later n) m

module _ {P : Type 0} {path : P → ℕ} {kids : P → List P} where
  -- one list of parts unfolds to one forest
  pub unfolds_unique : {ps : List P} {f g : Forest} → Unfolds path kids ps f → Unfolds path kids ps g → f ≡ g
  unfolds_unique nothing nothing = refl
  unfolds_unique (copy {p = p} u r) (copy v s) = ap₂ (tree (path p)) (unfolds_unique u v) (unfolds_unique r s)

  -- a part of the list has a copy in the forest
  listed_copy : {ps : List P} {f : Forest} {p : P} → Unfolds path kids ps f → Memᴰ p ps → Copy path kids p f
  listed_copy {p = p} nothing x4 = elim x4 [ ]
  listed_copy (copy {p = q} {under = v} {rest = w} u r) (Memᴰ.head e) =
      subst (λ (z : P). Copy path kids z (tree (path q) v w)) (sym e) (record { under = v; unfolds = u; node = here })
  listed_copy (copy u r) (Memᴰ.tail m) =
      let c = listed_copy r m in record { under = c.under; unfolds = c.unfolds; node = beside c.node }

  -- a named part has a copy in the forest
  pub named_copy : {ps : List P} {f : Forest} {p : P} → Unfolds path kids ps f → Named kids ps p → Copy path kids p f
  named_copy u (given m) = listed_copy u m
  named_copy u (further k n m) =
      let c = named_copy u n in
      let d = listed_copy c.unfolds m in
      record { under = d.under; unfolds = d.unfolds; node = node_trans c.node d.node }

  -- every node of the forest is a copy of a named part
  pub node_copy : {ps : List P} {x : ℕ} {u f : Forest} → Unfolds path kids ps f → Node x u f → CopyOf path kids ps x u
  node_copy {u = u} nothing x7 = elim x7 [ ]
  node_copy (copy {p = p} u r) here = record { part = p; named = given (Memᴰ.head refl); on = refl; unfolds = u }
  node_copy (copy {p = p} u r) (deeper n) =
      let c = node_copy u n in
      record { part = c.part; named = named_trans (given (Memᴰ.head refl)) c.named; on = c.on; unfolds = c.unfolds }
  node_copy (copy {p = p} u r) (beside n) =
      let c = node_copy r n in record { part = c.part; named = named_later c.named; on = c.on; unfolds = c.unfolds }

  -- what the forest holds, a part of the list holds
  pub forest_holds : {ps : List P} {f : Forest} (y : ℕ) → Unfolds path kids ps f → Holds f y → SomeHolds path kids ps y
  unfolding Holds
  forest_holds y nothing h = absurd h
  forest_holds y (copy {p = p} u r) (inl e) = record { part = p; listed = Memᴰ.head refl; holds = own e }
  forest_holds y (copy {p = p} u r) (inr (inl h)) =
      let s = forest_holds y u h in
      record { part = p; listed = Memᴰ.head refl; holds = kid s.part s.listed s.holds }
  forest_holds y (copy {p = p} u r) (inr (inr h)) =
      let s = forest_holds y r h in record { part = s.part; listed = Memᴰ.tail s.listed; holds = s.holds }

  holds_part : {p : P} {u : Forest} {y : ℕ} → Unfolds path kids (kids p) u → NodeHolds (path p) u y → PartHolds path kids p y
  holds_part u (itself e) = own e
  holds_part {y = y} u (descendant h) = let s = forest_holds y u h in kid s.part s.listed s.holds

  part_holds : {p : P} {u : Forest} {y : ℕ} → Unfolds path kids (kids p) u → PartHolds path kids p y → NodeHolds (path p) u y
  part_holds u (own e) = itself e
  part_holds u (kid k m h) = let c = listed_copy u m in node_holds_trans (deeper c.node) (part_holds c.unfolds h)

  -- a copy of a part holds exactly what the part holds
  pub copy_holds : {p : P} {u : Forest} {y : ℕ} → Unfolds path kids (kids p) u → PartHolds path kids p y ↔ NodeHolds (path p) u y
  copy_holds u = (part_holds u, holds_part u)

  -- a list unfolds where what each of its parts names does
  unfold_list : (ps : List P) → ((p : P) → Memᴰ p ps → (u : Forest) × Unfolds path kids (kids p) u)
      → (f : Forest) × Unfolds path kids ps f
  unfold_list [] h = (none, nothing)
  unfold_list (p ∷ ps) h =
      let u = h p (Memᴰ.head refl) in
      let r = unfold_list ps (λ q m. h q (Memᴰ.tail m)) in
      (tree (path p) u.0 r.0, copy u.1 r.1)

  module _ {rank : P → ℕ} {start : List P} (falls : Falls kids rank start) where
    unfold_part : (n : ℕ) (p : P) → Named kids start p → rank p < n → (u : Forest) × Unfolds path kids (kids p) u
    unfold_part zero p m h = absurd (omega arith)
    unfold_part (suc n) p m h =
        unfold_list (kids p) (λ k l. unfold_part n k (further p m l) (omega (arith, falls.each p k m l)))

    -- where a rank falls along the namings, what a named part names unfolds
    pub part_unfolds : (p : P) → Named kids start p → (u : Forest) × Unfolds path kids (kids p) u
    part_unfolds p m = unfold_part (suc (rank p)) p m (omega arith)

    -- and so does the list
    pub list_unfolds : (f : Forest) × Unfolds path kids start f
    list_unfolds = unfold_list start (λ p m. part_unfolds p (given m))

  stands : {parent : ℕ → ℕ} {count : ℕ} {start ps : List P} {x : ℕ} {f : Forest} → Fits parent count path kids start
      → ((k : P) → Memᴰ k ps → Named kids start k × MayStand parent count path x k) → Unfolds path kids ps f → Under parent count x f
  stands fits h nothing = bare
  stands fits h (copy {p = p} u r) =
      let k = h p (Memᴰ.head refl) in
      child k.1.inner k.1.small k.1.parent_is
      (stands fits (λ q m. (further p k.0 m, fits.each p q k.0 m)) u) (stands fits (λ q m. h q (Memᴰ.tail m)) r)

  -- what a named part's kids unfold to may stand under its path
  pub unfolds_under : {parent : ℕ → ℕ} {count : ℕ} {start : List P} {p : P} {u : Forest} → Fits parent count path kids start
      → Named kids start p → Unfolds path kids (kids p) u → Under parent count (path p) u
  unfolds_under {p = p} fits n u = stands fits (λ k m. (further p n m, fits.each p k n m)) u

  -- a part on path 0 unfolds to a document
  pub unfolds_document : {parent : ℕ → ℕ} {count : ℕ} {p : P} {f : Forest} → Fits parent count path kids (p ∷ []) → path p ≡ 0
      → Unfolds path kids (p ∷ []) f → Document parent count f
  unfolds_document {parent} {count} {p} fits e (copy {under = u} h nothing) =
      subst (λ (z : ℕ). Document parent count (tree z u none)) (sym e)
      (document (subst (λ (z : ℕ). Under parent count z u) e (unfolds_under fits (given (Memᴰ.head refl)) h)))

  -- the forest of one part holds exactly what the part holds
  pub one_holds : {p : P} {f : Forest} {y : ℕ} → Unfolds path kids (p ∷ []) f → PartHolds path kids p y ↔ Holds f y
  one_holds (copy h nothing) = (λ k. node_holds_tree (part_holds h k), λ k. holds_part h (tree_node_holds k))

  -- a node on c holds what the part holds of which it is a copy
  copy_in : {ps : List P} {x y : ℕ} {v : Forest} (c : CopyOf path kids ps x v) → NodeHolds x v y → PartHolds path kids c.part y
  copy_in {y = y} {v} c h = (copy_holds c.unfolds).1 (subst (λ (z : ℕ). NodeHolds z v y) (sym c.on) h)

  copy_out : {ps : List P} {x y : ℕ} {v : Forest} (c : CopyOf path kids ps x v) → PartHolds path kids c.part y → NodeHolds x v y
  copy_out {y = y} {v} c h = subst (λ (z : ℕ). NodeHolds z v y) c.on ((copy_holds c.unfolds).0 h)

  module _ {parent : ℕ → ℕ} {ps : List P} {f : Forest} (u : Unfolds path kids ps f) where
    -- the forest obeys an implication exactly if every named part does
    pub parts_implication : (p q : ℕ) → PartsImplication parent path kids ps p q ↔ Implication parent p q f
    parts_implication p q = (
      λ h. record { every = λ c x v n hp. let k = node_copy u n in copy_out k (h.every c x k.part k.named k.on (copy_in k hp)) },
      λ h. record {
        every = λ c x a n e hp.
            let k = named_copy u n in
            (copy_holds k.unfolds).1
            (h.every (path a) (subst (Context parent p q) (sym e) x) k.under k.node ((copy_holds k.unfolds).0 hp));
      },
    )

    -- the forest obeys an absence exactly if every named part does
    pub parts_absence : (p q : ℕ) → PartsAbsence parent path kids ps p q ↔ Absence parent p q f
    parts_absence p q = (
      λ h. record {
        never = λ c x v n hp hq. let k = node_copy u n in h.never c x k.part k.named k.on (copy_in k hp) (copy_in k hq);
      },
      λ h. record {
        never = λ c x a n e hp hq.
            let k = named_copy u n in
            h.never (path a) (subst (Context parent p q) (sym e) x) k.under k.node ((copy_holds k.unfolds).0 hp)
            ((copy_holds k.unfolds).0 hq);
      },
    )

    -- the forest obeys a rule exactly if every named part does
    pub parts_rule : (r : Rule) → PartsObeyRule parent path kids ps r ↔ ObeysRule parent r f
    parts_rule r = (
      λ h. record {
        implication = λ e. (parts_implication r.left r.right).0 (h.implication e);
        absence = λ e. (parts_absence r.left r.right).0 (h.absence e);
        along = λ e. (parts_implication r.left r.right).0 (h.along e);
        against = λ e. (parts_implication r.right r.left).0 (h.against e);
      },
      λ h. record {
        implication = λ e. (parts_implication r.left r.right).1 (h.implication e);
        absence = λ e. (parts_absence r.left r.right).1 (h.absence e);
        along = λ e. (parts_implication r.left r.right).1 (h.along e);
        against = λ e. (parts_implication r.right r.left).1 (h.against e);
      },
    )

    -- the forest obeys a list of rules exactly if every named part does
    pub parts_obey : (rules : List Rule) → PartsObey parent path kids ps rules ↔ Obeys parent rules f
    parts_obey rules = (
      λ h. record { each = λ r ru n. (parts_rule ru).0 (h.each r ru n) },
      λ h. record { each = λ r ru n. (parts_rule ru).1 (h.each r ru n) },
    )
