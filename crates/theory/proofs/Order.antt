-- The order of parts goes one way, equal parts of a document are one, and a part has one document written down.
use Prim.Native.Nat.{ℕ, ◌<◌}
use mathlib.Core.Path.{◌≡◌, refl, sym, ap, subst, ◌∙◌}
use mathlib.Core.Logic.{◌↔◌}
use mathlib.Core.Bool.{Bool}
use mathlib.Core.List.Memᴰ
use mathlib.Core.List.{List, [], ◌∷◌, Memᴰ}
use native.Mathlib.Omega.{arith}
use Rattle.files.specs.Table.{Rule}
use Rattle.documents.specs.Paths.{Descending, depth_of}
use Rattle.documents.specs.Parts.{Named, given, further}
use Rattle.documents.specs.PartList.{Entry}
use Rattle.theory.specs.Parts.{Part, RulesIn, Decides, kids_of, part_zero}
use Rattle.theory.specs.Order.{
  NumberedIn,
  Several,
  Only,
  SamePart,
  Precedes,
  by_depth,
  by_path,
  by_several,
  by_goal,
  Standing,
  LaysDown,
  Matches,
  WritesParts,
}
use Rattle.theory.proofs.Kids.{Goals, KidOf, handed, alone, kids_are}
use Rattle.theory.proofs.Completeness.{named_goals}
use Rattle.theory.proofs.Sorted.{
  numbered_member,
  sorted_number,
  sorted_unique,
  matches_unique,
  ascending_sorted,
}

-- several goals are not one
several_only : {goals : List ℕ} {g : ℕ} → Several goals → Only goals g → ⊥
several_only s o = s.differ (o.alone s.one s.one_listed ∙ sym (o.alone s.other s.other_listed))

only_same : {goals : List ℕ} {g h : ℕ} → Only goals g → Only goals h → g ≡ h
only_same {g = g} o u = u.alone g o.listed

-- of two parts at most one precedes the other
pub precedes_asym : {parent : ℕ → ℕ} (a b : Part) → Precedes parent a b → Precedes parent b a → ⊥
precedes_asym a b (by_depth h) (by_depth k) = omega arith
precedes_asym a b (by_depth h) (by_path e l) = omega arith
precedes_asym {parent} a b (by_depth h) (by_several e s g o) = omega (arith, ap (depth_of parent) e)
precedes_asym {parent} a b (by_depth h) (by_goal e g f o u l) = omega (arith, ap (depth_of parent) e)
precedes_asym a b (by_path e l) (by_depth k) = omega arith
precedes_asym a b (by_path e l) (by_path f m) = omega arith
precedes_asym a b (by_path e l) (by_several f s g o) = omega arith
precedes_asym a b (by_path e l) (by_goal f g h o u m) = omega arith
precedes_asym {parent} a b (by_several e s g o) (by_depth k) = omega (arith, ap (depth_of parent) e)
precedes_asym a b (by_several e s g o) (by_path f m) = omega arith
precedes_asym a b (by_several e s g o) (by_several f t h u) = several_only s u
precedes_asym a b (by_several e s g o) (by_goal f h k u v m) = several_only s v
precedes_asym {parent} a b (by_goal e g h o u l) (by_depth k) = omega (arith, ap (depth_of parent) e)
precedes_asym a b (by_goal e g h o u l) (by_path f m) = omega arith
precedes_asym a b (by_goal e g h o u l) (by_several f s k v) = several_only s u
precedes_asym a b (by_goal e g h o u l) (by_goal f i k v x m) = omega (arith, only_same u v, only_same o x)

less_asym : (m n : ℕ) → m < n → n < m → ⊥
less_asym m n l h = omega arith

-- the goals of a part of the document: all, or one
data GoalsOf (goals : List ℕ) (a : Part) : Type 0 where
  all : a.goals ≡ goals → GoalsOf goals a
  one : (g : ℕ) → a.goals ≡ g ∷ [] → GoalsOf goals a

module _ {parent : ℕ → ℕ} {rules : List Rule} {count : ℕ} {reach : ℕ → ℕ → ℕ → Bool} {goals : List ℕ} (desc : Descending parent)
    (within : RulesIn count rules) (decides : Decides parent rules count reach) (v : Goals parent count 0 goals)
    (plain : (g : ℕ) → Only goals g → goals ≡ g ∷ []) where
  named_kind : {a : Part} → Named (kids_of parent count reach) (part_zero goals ∷ []) a → GoalsOf goals a
  named_kind (given m) = all (ap (λ (z : Part). z.goals) (Memᴰ.eq_of_singleton m))
  named_kind (further {p = a} b n m) =
      pick (named_kind n) (kids_are desc within decides b a (named_goals desc within decides v n) m)
    where
      pick : {k : Part} → GoalsOf goals b → KidOf parent rules b.path b.goals k → GoalsOf goals k
      pick (all e) (handed h) = all e
      pick (one g e) (handed h) = one g e
      pick (all e) (alone x h r) = one x refl
      pick (one g e) (alone x h r) = one x refl

  -- equal parts of the document are one
  pub same_equal : {a b : Part} → Named (kids_of parent count reach) (part_zero goals ∷ []) a
      → Named (kids_of parent count reach) (part_zero goals ∷ []) b → SamePart a b → a ≡ b
  same_equal {a} {b} n m s = pick (named_kind n) (named_kind m)
    where
      join : a.goals ≡ b.goals → a ≡ b
      join e = λ i. record { path = s.path i; goals = e i }

      only : (l k : List ℕ) → ((g : ℕ) → Memᴰ g l ↔ Memᴰ g k) → (g : ℕ) → k ≡ g ∷ [] → Only l g
      only l k is g e = record {
        listed = (is g).1 (subst (λ (z : List ℕ). Memᴰ g z) (sym e) (Memᴰ.head refl));
        alone = λ h p. Memᴰ.eq_of_singleton (subst (λ (z : List ℕ). Memᴰ h z) e ((is h).0 p));
      }

      pick : GoalsOf goals a → GoalsOf goals b → a ≡ b
      pick (all e) (all f) = join (e ∙ sym f)
      pick (all e) (one g f) =
          join (e ∙ plain g (subst (λ (z : List ℕ). Only z g) e (only a.goals b.goals s.goals g f)) ∙ sym f)
      pick (one g e) (all f) =
          join (e ∙ sym (plain g (subst (λ (z : List ℕ). Only z g) f (only b.goals a.goals (λ h. ((s.goals h).1, (s.goals h).0)) g e)))
          ∙ sym f)
      pick (one g e) (one h f) =
          let p : g ≡ h = (only a.goals b.goals s.goals h f).alone g
          (subst (λ (z : List ℕ). Memᴰ g z) (sym e) (Memᴰ.head refl)) in
          join (e ∙ ap (λ (z : ℕ). z ∷ []) p ∙ sym f)

  module _ {es : List Entry} (w : WritesParts parent (kids_of parent count reach) (part_zero goals) es) where
    -- a part that stands in the list for a part of the document is that part
    pub standing_is : {n : ℕ} {j : Part} → Named (kids_of parent count reach) (part_zero goals ∷ []) j → Standing w.parts n j
        → NumberedIn w.parts n j
    standing_is {n} m s =
        subst (λ (z : Part). NumberedIn w.parts n z)
        (same_equal (w.named s.part (numbered_member s.number)) m s.same) s.number

    pub member_of : {a : Part} → Named (kids_of parent count reach) (part_zero goals ∷ []) a → Memᴰ a w.parts
    member_of {a} n = numbered_member (standing_is n (w.every a n).1)

  module _ {es fs : List Entry} (w : WritesParts parent (kids_of parent count reach) (part_zero goals) es)
      (x : WritesParts parent (kids_of parent count reach) (part_zero goals) fs) where
    parts_same : w.parts ≡ x.parts
    parts_same =
        sorted_unique precedes_asym w.ordered x.ordered (λ a m. member_of x (w.named a m)) (λ a m. member_of w (x.named a m))

    numbers_into : {a : Part} {e f : Entry} → Memᴰ a w.parts → LaysDown (kids_of parent count reach) w.parts a e
        → LaysDown (kids_of parent count reach) w.parts a f → (n : ℕ) → Memᴰ n e.kids → Memᴰ n f.kids
    numbers_into {a} {e} {f} m p q n k =
        let r = p.only n k in
        let j = further a (w.named a m) r.is_kid in
        let t = q.all r.kid r.is_kid in
        subst (λ (z : ℕ). Memᴰ z f.kids)
        (sorted_number precedes_asym w.ordered (standing_is w j t.standing) (standing_is w j r.standing)) t.listed

    entry_same : (a : Part) (e f : Entry) → Memᴰ a w.parts → LaysDown (kids_of parent count reach) w.parts a e
        → LaysDown (kids_of parent count reach) w.parts a f → e ≡ f
    entry_same a e f m p q =
        let k : e.kids ≡ f.kids =
        sorted_unique less_asym (ascending_sorted p.ascending) (ascending_sorted q.ascending) (numbers_into m p q)
        (numbers_into m q p) in
        let l : e.path ≡ f.path = p.path ∙ sym q.path in
        λ i. record { path = l i; kids = k i }

    -- no second document
    pub document_unique : es ≡ fs
    document_unique =
        matches_unique entry_same w.entries
        (subst (λ (l : List Part). Matches (LaysDown (kids_of parent count reach) l) l fs) (sym parts_same) x.entries)
