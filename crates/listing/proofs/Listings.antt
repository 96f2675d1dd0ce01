-- Laid out number by number, a document's text is its listing and evidence's text is its line.
use Prim.Native.Nat.{ℕ, ◌+◌, ◌-◌, ◌%◌, ◌<◌, ◌≤◌}
use mathlib.Core.Path.{◌≡◌, refl, sym, ap, ap₂, ◌∙◌}
use mathlib.Core.Bool.{true}
use mathlib.Core.List.{List, [], ◌∷◌, ◌++◌, append_assoc, append-nil}
use native.Mathlib.Omega.{arith}
use lib.ListN.{length}
use lib.Dec.{eqb}
use borrow.Author.Tests.{ne_eqb, lt-leb}
use Rattle.documents.specs.PartList.{Entry, part_numbers, document_numbers}
use Rattle.listing.specs.declared.lay.Stage.TheVariants.{Path, Children, Child, More}
use Rattle.listing.specs.declared.lay.Place.{Place}
use Rattle.listing.specs.Text.{digits, spaced, feed}
use Rattle.listing.specs.Lay.{
  consistent,
  inconsistent,
  inconsistent_text,
  parts_text,
  consistent_text,
  piece_text,
  next_part,
  place_after,
  is_end,
  text_from,
  document_start,
  evidence_start,
}
use Rattle.listing.proofs.Laying.{spaced_append}

abbrev at_part : ℕ → Place
at_part n = record { at = 0; stage = Path; part = n; left = 0 }

abbrev at_child : ℕ → ℕ → Place
at_child n k = record { at = 0; stage = Child; part = n; left = k }

-- the children of part n, of which k are left, and what follows
kids_text : (n : ℕ) (kids rest : List ℕ) → n < 65536 → 0 < length kids
    → text_from (at_child n (length kids)) (kids ++ rest) ≡ spaced kids ++ (10 ∷ text_from (at_part (n + 1)) rest)
unfolding text_from piece_text place_after next_part feed
kids_text n [] rest small some = absurd (omega arith)
kids_text n (x ∷ []) rest small some =
    let part : n % 65536 + 1 ≡ n + 1 = omega arith in
    rw part (append_assoc (spaced (x ∷ [])) (10 ∷ []) (text_from (record { at = 0; stage = Path; part = n + 1; left = 0 }) rest))
kids_text n (x ∷ y ∷ more) rest small some =
    let many : 1 < length (x ∷ y ∷ more) = omega arith in
    let left : length (x ∷ y ∷ more) - 1 ≡ length (y ∷ more) = omega arith in
    rw (lt-leb (length (x ∷ y ∷ more)) 1 many, left, append-nil (spaced (x ∷ [])), kids_text n (y ∷ more) rest small (omega arith))
    (sym (append_assoc (spaced (x ∷ [])) (spaced (y ∷ more)) (10 ∷ text_from (at_part (n + 1)) rest))
    ∙ ap (λ (l : List ℕ). l ++ (10 ∷ text_from (at_part (n + 1)) rest)) (sym (spaced_append (x ∷ []) (y ∷ more))))

-- the child count of part n, its children, and what follows
children_text : (n : ℕ) (kids rest : List ℕ) → n < 65536
    → feed (eqb (length kids) 0) ++ text_from (place_after Children 0 n 0 (length kids)) (kids ++ rest)
    ≡ spaced kids ++ (10 ∷ text_from (at_part (n + 1)) rest)
unfolding place_after next_part feed spaced
children_text n [] rest small =
    let part : n % 65536 + 1 ≡ n + 1 = omega arith in
    rw part
children_text n (x ∷ more) rest small =
    rw (ne_eqb (length (x ∷ more)) 0 (λ e. omega (arith, e))) (kids_text n (x ∷ more) rest small (omega arith))

-- the lines of parts, from part n on
parts_text_lem : (n : ℕ) (es : List Entry) → n + length es ≤ 65536 → text_from (at_part n) (part_numbers es) ≡ parts_text n es
unfolding text_from piece_text place_after part_numbers parts_text feed
parts_text_lem n [] few = refl
parts_text_lem n (e ∷ es) few =
    let p : List ℕ = spaced (e.path ∷ []) in
    append_assoc (digits n) p _
    ∙ ap (λ (l : List ℕ). digits n ++ (p ++ l)) (children_text n e.kids (part_numbers es) (omega arith))
    ∙ ap (λ (l : List ℕ). digits n ++ l)
    (sym (append_assoc p (spaced e.kids) (10 ∷ text_from (at_part (n + 1)) (part_numbers es)))
    ∙ ap₂ (λ (a b : List ℕ). a ++ (10 ∷ b)) (sym (spaced_append (e.path ∷ []) e.kids)) (parts_text_lem (n + 1) es (omega arith)))

-- a document's text is its listing
pub document_text : (es : List Entry) → length es ≤ 65536 → text_from document_start (document_numbers es) ≡ consistent_text es
unfolding text_from piece_text place_after document_numbers consistent_text feed
document_text es few =
    append_assoc consistent (spaced (length es ∷ []) ++ (10 ∷ [])) _
    ∙ ap (λ (l : List ℕ). consistent ++ l) (append_assoc (spaced (length es ∷ [])) (10 ∷ []) _)
    ∙ ap (λ (l : List ℕ). consistent ++ (spaced (length es ∷ []) ++ (10 ∷ l))) (parts_text_lem 0 es (omega arith))

-- further numbers of evidence
more_text : (n : ℕ) (ns : List ℕ) → text_from (record { at = 0; stage = More; part = 0; left = 0 }) (n ∷ ns) ≡ spaced (n ∷ ns) ++ feed true
unfolding text_from piece_text place_after is_end feed
more_text n [] = append-nil (spaced (n ∷ []) ++ (10 ∷ []))
more_text n (m ∷ ns) =
    ap (λ (l : List ℕ). l ++ text_from (record { at = 0; stage = More; part = 0; left = 0 }) (m ∷ ns)) (append-nil (spaced (n ∷ [])))
    ∙ ap (λ (l : List ℕ). spaced (n ∷ []) ++ l) (more_text m ns)
    ∙ sym (append_assoc (spaced (n ∷ [])) (spaced (m ∷ ns)) (10 ∷ []))
    ∙ ap (λ (l : List ℕ). l ++ (10 ∷ [])) (sym (spaced_append (n ∷ []) (m ∷ ns)))

-- evidence's text is its line
pub evidence_text : (n : ℕ) (ns : List ℕ) → text_from evidence_start (n ∷ ns) ≡ inconsistent_text (n ∷ ns)
unfolding text_from piece_text place_after is_end inconsistent_text feed
evidence_text n [] = append-nil (inconsistent ++ (spaced (n ∷ []) ++ (10 ∷ [])))
evidence_text n (m ∷ ns) =
    append_assoc inconsistent (spaced (n ∷ []) ++ []) _
    ∙ ap (λ (l : List ℕ). inconsistent ++ l)
    (ap₂ (λ (a b : List ℕ). a ++ b) (append-nil (spaced (n ∷ []))) (more_text m ns)
    ∙ sym (append_assoc (spaced (n ∷ [])) (spaced (m ∷ ns)) (10 ∷ []))
    ∙ ap (λ (l : List ℕ). l ++ (10 ∷ [])) (sym (spaced_append (n ∷ []) (m ∷ ns))))
