-- The text of a document and of evidence, number by number, and how much of it a lent block takes.
use Rattle.std.specs.Prelude.{ℕ, zero, suc, ◌+◌, ◌-◌, ◌%◌, ◌≤◌, ◌<◌, ◌≡◌, Bool, true, false, cond, List, [], ◌∷◌, ◌++◌, length, drop, eqb, leb}
use Rattle.files.specs.Number.{Begun, Is, Refused, number_in}
use Rattle.documents.specs.PartList.{Entry}
use Rattle.listing.specs.declared.lay.Place.{Place}
use Rattle.listing.specs.declared.lay.Stage.{Stage}
use Rattle.listing.specs.declared.lay.Stage.TheVariants.{Count, Path, Children, Child, First, More}
use Rattle.listing.specs.Text.{digits, spaced, feed, Stored}

-- the word `consistent`
unfoldable pub consistent : List ℕ
consistent = 99 ∷ 111 ∷ 110 ∷ 115 ∷ 105 ∷ 115 ∷ 116 ∷ 101 ∷ 110 ∷ 116 ∷ []

-- the word `inconsistent`
unfoldable pub inconsistent : List ℕ
inconsistent = 105 ∷ 110 ∷ 99 ∷ 111 ∷ 110 ∷ 115 ∷ 105 ∷ 115 ∷ 116 ∷ 101 ∷ 110 ∷ 116 ∷ []

-- the word `refused`
unfoldable pub refused_word : List ℕ
refused_word = 114 ∷ 101 ∷ 102 ∷ 117 ∷ 115 ∷ 101 ∷ 100 ∷ []

-- the line of a refusal: its number and its place
unfoldable pub refused_text : ℕ → ℕ → List ℕ
refused_text k at = refused_word ++ (spaced (k ∷ at ∷ []) ++ feed true)

-- the line of an inconsistent set: the numbers of the evidence
unfoldable pub inconsistent_text : List ℕ → List ℕ
inconsistent_text ns = inconsistent ++ (spaced ns ++ feed true)

-- the lines of parts from number n on: number, path, children
unfoldable pub parts_text : ℕ → List Entry → List ℕ
parts_text n [] = []
parts_text n (e ∷ es) = digits n ++ (spaced (e.path ∷ e.kids) ++ (10 ∷ parts_text (n + 1) es))

-- the listing of a document: the verdict and the part count, then the parts
unfoldable pub consistent_text : List Entry → List ℕ
consistent_text es = consistent ++ (spaced (length es ∷ []) ++ (10 ∷ parts_text 0 es))

-- the text of a number x by what it is; `last`: no number follows it
unfoldable pub piece_text : Stage → ℕ → ℕ → Bool → ℕ → List ℕ
piece_text Count part left last x = consistent ++ (spaced (x ∷ []) ++ feed true)
piece_text Path part left last x = digits part ++ spaced (x ∷ [])
piece_text Children part left last x = feed (eqb x 0)
piece_text Child part left last x = spaced (x ∷ []) ++ feed (leb left 1)
piece_text First part left last x = inconsistent ++ (spaced (x ∷ []) ++ feed last)
piece_text More part left last x = spaced (x ∷ []) ++ feed last

-- the place after a part's line
unfoldable pub next_part : ℕ → ℕ → Place
next_part next part = record { at = next; stage = Path; part = part % 65536 + 1; left = 0 }

-- the place after a number x, by what it is; the next number stands at `next`
unfoldable pub place_after : Stage → ℕ → ℕ → ℕ → ℕ → Place
place_after Count next part left x = record { at = next; stage = Path; part = 0; left = 0 }
place_after Path next part left x = record { at = next; stage = Children; part = part; left = 0 }
place_after Children next part left x = cond (eqb x 0) (next_part next part) (record { at = next; stage = Child; part = part; left = x })
place_after Child next part left x = cond (leb left 1) (next_part next part) (record { at = next; stage = Child; part = part; left = left - 1 })
place_after First next part left x = record { at = next; stage = More; part = 0; left = 0 }
place_after More next part left x = record { at = next; stage = More; part = 0; left = 0 }

-- whether no number follows
unfoldable pub is_end : List ℕ → Bool
is_end [] = true
is_end (n ∷ ns) = false

-- the text of numbers one after the other, from a place on
unfoldable pub text_from : Place → List ℕ → List ℕ
text_from p [] = []
text_from p (x ∷ ns) = piece_text p.stage p.part p.left (is_end ns) x ++ text_from (place_after p.stage 0 p.part p.left x) ns

-- where the text of a document begins
abbrev pub document_start : Place
document_start = record { at = 0; stage = Count; part = 0; left = 0 }

-- where the text of evidence begins
abbrev pub evidence_start : Place
evidence_start = record { at = 0; stage = First; part = 0; left = 0 }

-- the text of the number x of `size` bytes at a place
unfoldable pub text_at : List ℕ → Place → ℕ → ℕ → List ℕ
text_at s p x size = piece_text p.stage p.part p.left (leb (length s) (p.at + size)) x

-- the place after it
unfoldable pub after_at : Place → ℕ → ℕ → Place
after_at p x size = place_after p.stage (p.at + size) p.part p.left x

-- what stands at a place: a number is gone on with, anything else ends the text
unfoldable pub lays_number : (ℕ → ℕ → List ℕ) → Begun → List ℕ
lays_number go (Is x size) = go x size
lays_number go (Refused k) = []

-- the numbers of the bytes s from a place on, as many as have 48 bytes of room before them in a block of so much room; `most`
-- bounds how many numbers there are
unfoldable pub lays : ℕ → List ℕ → ℕ → Place → List ℕ
lays zero s room p = []
lays (suc most) s room p =
    cond (leb 48 room)
    (lays_number (λ x size. text_at s p x size ++ lays most s (room - length (text_at s p x size)) (after_at p x size)) (number_in (drop p.at s)))
    []

-- what is laid out of the numbers of s, of which the first is of this stage, in a block
abbrev pub laid_text : List ℕ → Stage → List ℕ → List ℕ
laid_text s stage out = lays (length s) s (length out) (record { at = 0; stage = stage; part = 0; left = 0 })

-- what laying out a refusal answers, and the block after the call
pub record LaysRefusal (k at : ℕ) (out after : List ℕ) (r : ℕ) : Type 0 where
  pub fits : 64 ≤ length out → Stored (refused_text k at) out 0 after r
  pub short : length out < 64 → (after ≡ out) × (r ≡ 0)
