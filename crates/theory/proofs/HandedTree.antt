-- The tree that a document written down stands for holds and obeys what the tree of part 0 does.
use Prim.Native.Nat.{ℕ, suc, ◌≤◌, ◌<◌}
use mathlib.Core.Path.{◌≡◌, refl, sym, ap, subst, ◌∙◌}
use mathlib.Core.Bool.{Bool}
use mathlib.Core.List.Memᴰ
use mathlib.Core.List.{List, [], ◌∷◌, Memᴰ}
use native.Mathlib.Omega.{arith}
use lib.ListN.{length, get_or}
use Rattle.files.specs.Table.{Rule}
use Rattle.files.specs.Sets.{Ascending}
use Rattle.documents.specs.Paths.{Descending, depth_of}
use Rattle.documents.specs.Tree.{Forest, Holds, Document}
use Rattle.documents.specs.Obey.{Obeys}
use Rattle.documents.specs.Parts.{Unfolds, PartHolds, Named, given, further, MayStand}
use Rattle.documents.specs.PartList.{Entry, entry_path, entry_kids, StandsFor, NamedEarlier, ValidParts}
use Rattle.documents.proofs.Paths.{below_le, depth_child}
use Rattle.documents.proofs.Parts.{list_unfolds, unfolds_document, one_holds, parts_implication, parts_absence, parts_obey}
use Rattle.documents.proofs.Shared.{Renames, renamed_holds, renamed_fits, renamed_falls, renamed_implication, renamed_absence, renamed_obey}
use Rattle.theory.specs.Follows.{BreaksImplication, BreaksAbsence, Witnesses}
use Rattle.theory.specs.Parts.{Part, path_of, RulesIn, Decides, kids_of, part_zero}
use Rattle.theory.specs.Order.{NumberedIn, Only, by_depth, LaysDown, WritesParts}
use Rattle.theory.proofs.Kids.{Goals}
use Rattle.theory.proofs.Completeness.{fits, falls, named_goals}
use Rattle.theory.proofs.Order.{precedes_asym, standing_is, member_of}
use Rattle.theory.proofs.Sorted.{
  numbered_unique,
  numbered_lt,
  numbered_under,
  numbered_at,
  numbered_map,
  numbered_member,
  member_numbered,
  sorted_less,
  sorted_number,
  matches_length,
  matches_right,
  ascending_sorted,
  sorted_ascending,
}

-- the path and the children of an entry, by its number
path_at_lem : {es : List Entry} {n : ℕ} {e : Entry} → NumberedIn es n e → entry_path es n ≡ e.path
unfolding entry_path
path_at_lem m = numbered_at 0 (numbered_map (λ (e : Entry). e.path) m)

kids_at_lem : {es : List Entry} {n : ℕ} {e : Entry} → NumberedIn es n e → entry_kids es n ≡ e.kids
unfolding entry_kids
kids_at_lem m = numbered_at [] (numbered_map (λ (e : Entry). e.kids) m)

module _ {parent : ℕ → ℕ} {rules : List Rule} {count : ℕ} {reach : ℕ → ℕ → ℕ → Bool} {goals : List ℕ} (desc : Descending parent)
    (within : RulesIn count rules) (decides : Decides parent rules count reach) (v : Goals parent count 0 goals)
    (plain : (g : ℕ) → Only goals g → goals ≡ g ∷ []) {es : List Entry} (w : WritesParts parent (kids_of parent count reach) (part_zero goals) es) where
  -- a part with its number, and the entry that lays it down
  record Laid (n : ℕ) : Type 0 where
    part : Part
    number : NumberedIn w.parts n part
    named : Named (kids_of parent count reach) (part_zero goals ∷ []) part
    entry : Entry
    at : NumberedIn es n entry
    lays : LaysDown (kids_of parent count reach) w.parts part entry

  laid : {n : ℕ} {a : Part} → NumberedIn w.parts n a → Laid n
  laid {n} {a} m =
      let r = matches_right w.entries m in
      record { part = a; number = m; named = w.named a (numbered_member m); entry = r.0; at = r.1; lays = r.2 }

  name_laid : {n : ℕ} → Named (entry_kids es) (0 ∷ []) n → Laid n
  name_laid {n} (given m) = subst Laid (sym (Memᴰ.eq_of_singleton m)) (laid w.begins)
  name_laid {n} (further k r m) =
      let b = name_laid r in
      let o = b.lays.only n (subst (λ (l : List ℕ). Memᴰ n l) (kids_at_lem b.at) m) in
      laid (standing_is desc within decides v plain w (further b.part b.named o.is_kid) o.standing)

  -- the part of a number
  part_at : ℕ → Part
  part_at n = get_or w.parts n (part_zero goals)

  part_at_lem : {n : ℕ} {a : Part} → NumberedIn w.parts n a → part_at n ≡ a
  unfolding part_at
  part_at_lem m = numbered_at (part_zero goals) m

  numbers_rename : Renames path_of (kids_of parent count reach) (part_zero goals ∷ []) (entry_path es) (entry_kids es) (0 ∷ []) part_at
  numbers_rename = record {
    on = λ q n. let b = name_laid n in ap path_of (part_at_lem b.number) ∙ sym b.lays.path ∙ sym (path_at_lem b.at);
    first = λ q m. Memᴰ.head (ap part_at (Memᴰ.eq_of_singleton m) ∙ part_at_lem w.begins);
    first_all = λ j m. record {
      name = 0;
      listed = Memᴰ.head refl;
      is = part_at_lem w.begins ∙ sym (Memᴰ.eq_of_singleton m);
    };
    next = λ q k n m.
        let b = name_laid n in
        let o = b.lays.only k (subst (λ (l : List ℕ). Memᴰ k l) (kids_at_lem b.at) m) in
        let e = part_at_lem (standing_is desc within decides v plain w (further b.part b.named o.is_kid) o.standing) in
        subst (λ (z : Part). Memᴰ z (kids_of parent count reach (part_at q))) (sym e)
        (subst (λ (z : Part). Memᴰ o.kid (kids_of parent count reach z)) (sym (part_at_lem b.number)) o.is_kid);
    next_all = λ q j n m.
        let b = name_laid n in
        let k = subst (λ (z : Part). Memᴰ j (kids_of parent count reach z)) (part_at_lem b.number) m in
        let o = b.lays.all j k in
        record {
          name = o.number;
          listed = subst (λ (l : List ℕ). Memᴰ o.number l) (sym (kids_at_lem b.at)) o.listed;
          is = part_at_lem (standing_is desc within decides v plain w (further b.part b.named k) o.standing);
        };
  }

  laid_under : (n : ℕ) → n < length es → Laid n
  laid_under n l = laid (numbered_under w.parts n (omega (arith, matches_length w.entries))).1

  -- a child and its number
  record LaidKid (n k : ℕ) : Type 0 where
    from : Laid n
    kid : Part
    is_kid : Memᴰ kid (kids_of parent count reach from.part)
    number : NumberedIn w.parts k kid

  laid_kid : (n k : ℕ) → n < length es → Memᴰ k (entry_kids es n) → LaidKid n k
  laid_kid n k l m =
      let b = laid_under n l in
      let o = b.lays.only k (subst (λ (l : List ℕ). Memᴰ k l) (kids_at_lem b.at) m) in
      record {
        from = b;
        kid = o.kid;
        is_kid = o.is_kid;
        number = standing_is desc within decides v plain w (further b.part b.named o.is_kid) o.standing;
      }

  kid_stands_at : {n k : ℕ} (b : LaidKid n k) → MayStand parent count path_of b.from.part.path b.kid
  kid_stands_at b = (fits desc within decides v).each b.from.part b.kid b.from.named b.is_kid

  -- a child's number is above its parent part's
  kid_later : {a k : Part} {n m : ℕ} → NumberedIn w.parts n a → NumberedIn w.parts m k → MayStand parent count path_of a.path k
      → n < m
  kid_later {a} {k} p q s =
      sorted_less precedes_asym w.ordered p q
      (by_depth (omega (arith, depth_child desc k.path s.inner, ap (depth_of parent) s.parent_is)))

  path_of_lem : {n : ℕ} {a : Part} → NumberedIn w.parts n a → entry_path es n ≡ a.path
  path_of_lem m = let b = laid m in path_at_lem b.at ∙ b.lays.path ∙ ap path_of (numbered_unique b.number m)

  named_by : {k : ℕ} {a : Part} → 0 < k → NumberedIn w.parts k a → Named (kids_of parent count reach) (part_zero goals ∷ []) a
      → NamedEarlier es k
  named_by {k} {a} p m (given g) =
      let e = Memᴰ.eq_of_singleton g in
      absurd (omega (arith, sorted_number precedes_asym w.ordered (subst (NumberedIn w.parts k) e m) w.begins))
  named_by {k} {a} p m (further c n g) =
      let i = member_numbered (member_of desc within decides v plain w n) in
      let b = laid i.1 in
      let is : b.part ≡ c = numbered_unique b.number i.1 in
      let o = b.lays.all a (subst (λ (z : Part). Memᴰ a (kids_of parent count reach z)) (sym is) g) in
      let k-is : o.number ≡ k =
      sorted_number precedes_asym w.ordered (standing_is desc within decides v plain w (further c n g) o.standing) m in
      record {
        by = record {
          part = i.0;
          listed = omega (arith, numbered_lt i.1, matches_length w.entries);
          names = subst (λ (z : ℕ). Memᴰ z (entry_kids es i.0)) k-is
              (subst (λ (l : List ℕ). Memᴰ o.number l) (sym (kids_at_lem b.at)) o.listed);
        };
        earlier = kid_later i.1 m ((fits desc within decides v).each c a n g);
      }

  -- the document is a part list that breaks no condition of 01
  pub document_valid : length es ≤ 512 → ValidParts parent count es
  document_valid few = record {
    some = omega (arith, numbered_lt w.begins, matches_length w.entries);
    most = few;
    root = path_of_lem w.begins;
    inside = λ n l.
        let b = laid_under n l in
        let g = named_goals desc within decides v b.named in
        omega (arith, path_of_lem b.number, below_le desc (g.below g.some g.listed), g.small g.some g.listed);
    kids = λ n l.
        let b = laid_under n l in
        subst (λ (z : List ℕ). Ascending (suc n) z) (sym (kids_at_lem b.at))
        (sorted_ascending (ascending_sorted b.lays.ascending)
        (λ k m. let q = laid_kid n k l (subst (λ (z : List ℕ). Memᴰ k z) (sym (kids_at_lem b.at)) m) in
        kid_later q.from.number q.number (kid_stands_at q)));
    below = λ n k l m. omega (arith, numbered_lt (laid_kid n k l m).number, matches_length w.entries);
    named = λ k p l. let b = laid_under k l in named_by p b.number b.named;
    inner = λ n k l m. let b = laid_kid n k l m in omega (arith, path_of_lem b.number, (kid_stands_at b).inner);
    parent_is = λ n k l m.
        let b = laid_kid n k l m in
        ap parent (path_of_lem b.number) ∙ (kid_stands_at b).parent_is ∙ sym (path_of_lem b.from.number);
  }

  -- the document stands for some tree
  pub document_stands : (d : Forest) × StandsFor es d
  document_stands =
      let t = list_unfolds (renamed_falls numbers_rename (falls desc within decides v)) in (t.0, record { unfolds = t.1 })

  module _ {d : Forest} (s : StandsFor es d) where
    -- and that is a document of the table
    pub stands_document : Document parent count d
    stands_document =
        unfolds_document (renamed_fits numbers_rename (fits desc within decides v))
        (path_of_lem w.begins) s.unfolds

    module _ {t : Forest} (u : Unfolds path_of (kids_of parent count reach) (part_zero goals ∷ []) t) where
      stands_obeys : (more : List Rule) → Obeys parent more t → Obeys parent more d
      stands_obeys more o = (parts_obey s.unfolds more).0 ((renamed_obey numbers_rename).0 ((parts_obey u more).1 o))

      stands_holds : (y : ℕ) → Holds t y → Holds d y
      stands_holds y h =
          (one_holds s.unfolds).0 ((renamed_holds numbers_rename (given (Memᴰ.head refl))).1
          (subst (λ (z : Part). PartHolds path_of (kids_of parent count reach) z y) (sym (part_at_lem w.begins)) ((one_holds u).1 h)))

      -- it breaks the implication that the tree of part 0 breaks
      pub stands_breaks_implication : {p q : ℕ} → BreaksImplication parent rules count p q t → BreaksImplication parent rules count p q d
      stands_breaks_implication {p} {q} b = record {
        is_document = stands_document;
        obeys = stands_obeys rules b.obeys;
        breaks = λ i.
            b.breaks ((parts_implication u p q).0 ((renamed_implication numbers_rename).1 ((parts_implication s.unfolds p q).1 i)));
      }

      -- and the absence
      pub stands_breaks_absence : {p q : ℕ} → BreaksAbsence parent rules count p q t → BreaksAbsence parent rules count p q d
      stands_breaks_absence {p} {q} b = record {
        is_document = stands_document;
        obeys = stands_obeys rules b.obeys;
        breaks = λ i. b.breaks ((parts_absence u p q).0 ((renamed_absence numbers_rename).1 ((parts_absence s.unfolds p q).1 i)));
      }

      -- and holds the required paths that it holds
      pub stands_witnesses : {required : List ℕ} → Witnesses parent rules count required t → Witnesses parent rules count required d
      stands_witnesses b = record {
        is_document = stands_document;
        obeys = stands_obeys rules b.obeys;
        holds = record { each = λ x m. stands_holds x (b.holds.each x m) };
      }
