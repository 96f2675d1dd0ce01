-- Two part systems that name the same: parts under other names (numbers, say), each name's kids in any order, stand for trees that
-- hold the same and obey the same rules.
use Prim.Native.Nat.{ℕ}
use mathlib.Core.Path.{◌≡◌, refl, sym, ap, subst, ◌∙◌}
use mathlib.Core.Logic.{◌↔◌}
use mathlib.Core.List.{List, Memᴰ}
use Rattle.files.specs.Table.{Rule}
use Rattle.documents.specs.Parts.{
  PartHolds,
  own,
  kid,
  Named,
  given,
  further,
  Falls,
  Fits,
  PartsImplication,
  PartsAbsence,
  PartsObey,
}

-- a member of the list that is named j
pub record Origin {P Q : Type 0} (part : Q → P) (qs : List Q) (j : P) : Type 0 where
  pub name : Q
  pub listed : Memᴰ name qs
  pub is : part name ≡ j

-- the names q of the list `qs`, and all that they name, stand for the parts `part q` of the list `ps`: on the same path, naming the same
pub record Renames {P Q : Type 0} (path : P → ℕ) (kids : P → List P) (ps : List P) (on_path : Q → ℕ) (names : Q → List Q) (qs : List Q)
    (part : Q → P) : Type 0 where
  pub on : (q : Q) → Named names qs q → path (part q) ≡ on_path q
  pub first : (q : Q) → Memᴰ q qs → Memᴰ (part q) ps
  pub first_all : (j : P) → Memᴰ j ps → Origin part qs j
  pub next : (q k : Q) → Named names qs q → Memᴰ k (names q) → Memᴰ (part k) (kids (part q))
  pub next_all : (q : Q) (j : P) → Named names qs q → Memᴰ j (kids (part q)) → Origin part (names q) j

-- a named q that stands for j
record NamedOrigin {P Q : Type 0} (names : Q → List Q) (qs : List Q) (part : Q → P) (j : P) : Type 0 where
  name : Q
  named : Named names qs name
  is : part name ≡ j

module _ {P Q : Type 0} {path : P → ℕ} {kids : P → List P} {ps : List P} {on_path : Q → ℕ} {names : Q → List Q} {qs : List Q}
    {part : Q → P} (same : Renames path kids ps on_path names qs part) where
  -- what a name stands for is named
  pub named_image : {q : Q} → Named names qs q → Named kids ps (part q)
  named_image {q} (given m) = given (same.first q m)
  named_image {q} (further k n m) = further (part k) (named_image n) (same.next k q n m)

  named_origin : {j : P} → Named kids ps j → NamedOrigin names qs part j
  named_origin {j} (given m) = let o = same.first_all j m in record { name = o.name; named = given o.listed; is = o.is }
  named_origin {j} (further k n m) =
      let b = named_origin n in
      let o = same.next_all b.name j b.named (subst (λ (z : P). Memᴰ j (kids z)) (sym b.is) m) in
      record { name = o.name; named = further b.name b.named o.listed; is = o.is }

  holds_image : {q : Q} {y : ℕ} → Named names qs q → PartHolds on_path names q y → PartHolds path kids (part q) y
  holds_image {q} n (own e) = own (same.on q n ∙ e)
  holds_image {q} n (kid k m h) = kid (part k) (same.next q k n m) (holds_image (further q n m) h)

  holds_origin : {j : P} {y : ℕ} → PartHolds path kids j y → (q : Q) → Named names qs q → part q ≡ j → PartHolds on_path names q y
  holds_origin (own e) q n p = own (sym (same.on q n) ∙ ap path p ∙ e)
  holds_origin (kid k m h) q n p =
      let o = same.next_all q k n (subst (λ (z : P). Memᴰ k (kids z)) (sym p) m) in
      kid o.name o.listed (holds_origin h o.name (further q n o.listed) o.is)

  -- a name holds exactly what its part holds
  pub renamed_holds : {q : Q} {y : ℕ} → Named names qs q → PartHolds on_path names q y ↔ PartHolds path kids (part q) y
  renamed_holds {q} n = (holds_image n, λ h. holds_origin h q n refl)

  -- the names fit the table where the parts do
  pub renamed_fits : {parent : ℕ → ℕ} {count : ℕ} → Fits parent count path kids ps → Fits parent count on_path names qs
  renamed_fits {parent} {count} f = record {
    each = λ q k n m.
        let s = f.each (part q) (part k) (named_image n) (same.next q k n m) in
        let e = same.on k (further q n m) in
        record { inner = rw (← e) s.inner; small = rw (← e) s.small; parent_is = rw (← e) (s.parent_is ∙ same.on q n) };
  }

  -- a rank of the parts is one of the names
  pub renamed_falls : {rank : P → ℕ} → Falls kids rank ps → Falls names (λ q. rank (part q)) qs
  renamed_falls f = record { each = λ q k n m. f.each (part q) (part k) (named_image n) (same.next q k n m) }

  module _ {parent : ℕ → ℕ} where
    -- the names obey an implication, or an absence, exactly if the parts do
    pub renamed_implication : {p q : ℕ} → PartsImplication parent path kids ps p q ↔ PartsImplication parent on_path names qs p q
    renamed_implication {q = q} = (
      λ h. record {
        every = λ c x a n e k. (renamed_holds n).1 (h.every c x (part a) (named_image n) (same.on a n ∙ e) ((renamed_holds n).0 k));
      },
      λ h. record {
        every = λ c x j n e k.
            let o = named_origin n in
            subst (λ (z : P). PartHolds path kids z q) o.is ((renamed_holds o.named).0
            (h.every c x o.name o.named (sym (same.on o.name o.named) ∙ ap path o.is ∙ e)
            (holds_origin k o.name o.named o.is)));
      },
    )

    pub renamed_absence : {p q : ℕ} → PartsAbsence parent path kids ps p q ↔ PartsAbsence parent on_path names qs p q
    renamed_absence = (
      λ h. record {
        never = λ c x a n e k l.
            h.never c x (part a) (named_image n) (same.on a n ∙ e) ((renamed_holds n).0 k) ((renamed_holds n).0 l);
      },
      λ h. record {
        never = λ c x j n e k l.
            let o = named_origin n in
            h.never c x o.name o.named (sym (same.on o.name o.named) ∙ ap path o.is ∙ e)
            (holds_origin k o.name o.named o.is) (holds_origin l o.name o.named o.is);
      },
    )

    -- the names obey a list of rules exactly if the parts do
    pub renamed_obey : {rules : List Rule} → PartsObey parent path kids ps rules ↔ PartsObey parent on_path names qs rules
    renamed_obey = (
      λ h. record {
        each = λ r ru n. record {
          implication = λ e. renamed_implication.0 ((h.each r ru n).implication e);
          absence = λ e. renamed_absence.0 ((h.each r ru n).absence e);
          along = λ e. renamed_implication.0 ((h.each r ru n).along e);
          against = λ e. renamed_implication.0 ((h.each r ru n).against e);
        };
      },
      λ h. record {
        each = λ r ru n. record {
          implication = λ e. renamed_implication.1 ((h.each r ru n).implication e);
          absence = λ e. renamed_absence.1 ((h.each r ru n).absence e);
          along = λ e. renamed_implication.1 ((h.each r ru n).along e);
          against = λ e. renamed_implication.1 ((h.each r ru n).against e);
        };
      },
    )
