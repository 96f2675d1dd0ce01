-- In a block with room for the whole text one call lays it all out, and nothing is left.
use Prim.Native.Nat.{ℕ, zero, suc, ◌+◌, ◌-◌, ◌*◌, ◌<◌, ◌≤◌}
use mathlib.Core.Path.{◌≡◌, refl, sym, ap, subst, ◌∙◌}
use mathlib.Core.Bool.{Bool, true, false}
use mathlib.Core.List.Memᴰ
use mathlib.Core.List.{List, [], ◌∷◌, ◌++◌, append_assoc, append-nil}
use native.Mathlib.Omega.{arith}
use lib.ListN.{length, drop, length-append}
use lib.Seq.{drop_at}
use lib.Dec.{eqb, leb, ltb}
use borrow.Author.Tests.{le-leb, lt-leb}
use Rattle.files.specs.Number.{Is, Refused, number_in, bytes_of, bytes_of_all, before}
use Rattle.files.proofs.Numbers.{read_back, in_cut}
use Rattle.documents.specs.PartList.{Entry, document_numbers, entry_path}
use Rattle.listing.specs.declared.lay.Stage.{Stage}
use Rattle.listing.specs.declared.lay.Stage.TheVariants.{Count, Path, Children, Child, First, More}
use Rattle.listing.specs.declared.lay.Place.{Place}
use Rattle.listing.specs.Lay.{
  inconsistent_text,
  consistent_text,
  piece_text,
  next_part,
  place_after,
  is_end,
  text_from,
  document_start,
  evidence_start,
  lays_number,
  text_at,
  after_at,
  lays,
}
use Rattle.listing.proofs.Laying.{after_at_lem}
use Rattle.listing.proofs.Lengths.{Small, document_length, evidence_length}
use Rattle.listing.proofs.Listings.{document_text, evidence_text}

-- the text does not depend on where the bytes stand
text_same : (p q : Place) (ns : List ℕ) → p.stage ≡ q.stage → p.part ≡ q.part → p.left ≡ q.left → text_from p ns ≡ text_from q ns
unfolding text_from
text_same p q [] a b c = refl
text_same p q (x ∷ ns) a b c =
    λ i. piece_text (a i) (b i) (c i) (is_end ns) x ++ text_from (place_after (a i) 0 (b i) (c i) x) ns

-- nor does the place after a number, but for its own
record SameAfter (p q : Place) : Type 0 where
  stage : p.stage ≡ q.stage
  part : p.part ≡ q.part
  left : p.left ≡ q.left

same_after : (st : Stage) (next part left x : ℕ) → SameAfter (place_after st next part left x) (place_after st 0 part left x)
unfolding place_after next_part
same_after Count next part left x = record { stage = refl; part = refl; left = refl }
same_after Path next part left x = record { stage = refl; part = refl; left = refl }
same_after Children next part left x = by (eqb x 0) refl
  where
    by : (t : Bool) → eqb x 0 ≡ t → SameAfter (place_after Children next part left x) (place_after Children 0 part left x)
    by true e = rw e (record { stage = refl; part = refl; left = refl })
    by false e = rw e (record { stage = refl; part = refl; left = refl })
same_after Child next part left x = by (leb left 1) refl
  where
    by : (t : Bool) → leb left 1 ≡ t → SameAfter (place_after Child next part left x) (place_after Child 0 part left x)
    by true e = rw e (record { stage = refl; part = refl; left = refl })
    by false e = rw e (record { stage = refl; part = refl; left = refl })
same_after First next part left x = record { stage = refl; part = refl; left = refl }
same_after More next part left x = record { stage = refl; part = refl; left = refl }

bytes_append : (a b : List ℕ) → bytes_of_all (a ++ b) ≡ bytes_of_all a ++ bytes_of_all b
unfolding bytes_of_all
bytes_append [] b = refl
bytes_append (x ∷ a) b = ap (λ (l : List ℕ). bytes_of x ++ l) (bytes_append a b) ∙ sym (append_assoc (bytes_of x) (bytes_of_all a) (bytes_of_all b))

-- the bytes from a number's place on
from_place : (pre ns : List ℕ) (at : ℕ) → at ≡ length (bytes_of_all pre) → drop at (bytes_of_all (pre ++ ns)) ≡ bytes_of_all ns
from_place pre ns at e = ap (drop at) (bytes_append pre ns) ∙ drop_at (bytes_of_all pre) (bytes_of_all ns) at (sym e)

bytes_some : (n : ℕ) → 1 ≤ length (bytes_of n)
unfolding bytes_of
bytes_some n = by (ltb n 128) refl
  where
    by : (t : Bool) → ltb n 128 ≡ t → 1 ≤ length (bytes_of n)
    by true e = rw e (omega arith)
    by false e = rw e (omega arith)

-- the bytes of one number more
one_longer : (pre : List ℕ) (x : ℕ) → length (bytes_of_all (pre ++ (x ∷ []))) ≡ length (bytes_of_all pre) + length (bytes_of x)
unfolding bytes_of_all
one_longer pre x =
    ap length (bytes_append pre (x ∷ [])) ∙ length-append (bytes_of_all pre) (bytes_of x ++ [])
    ∙ ap (λ (l : List ℕ). length (bytes_of_all pre) + length l) (append-nil (bytes_of x))

-- a number is the last exactly if no bytes follow it
last_is : (pre : List ℕ) (x : ℕ) (ns : List ℕ) (at : ℕ) → at ≡ length (bytes_of_all pre)
    → leb (length (bytes_of_all (pre ++ (x ∷ ns)))) (at + length (bytes_of x)) ≡ is_end ns
unfolding is_end bytes_of_all
last_is pre x [] at e =
    le-leb (length (bytes_of_all (pre ++ (x ∷ [])))) (at + length (bytes_of x)) (omega (arith, one_longer pre x))
last_is pre x (y ∷ ns) at e =
    let all : length (bytes_of_all (pre ++ (x ∷ y ∷ ns))) ≡ length (bytes_of_all pre) + length (bytes_of x ++ (bytes_of y ++ bytes_of_all ns)) =
    ap length (bytes_append pre (x ∷ y ∷ ns)) ∙ length-append (bytes_of_all pre) (bytes_of x ++ (bytes_of y ++ bytes_of_all ns)) in
    lt-leb (length (bytes_of_all (pre ++ (x ∷ y ∷ ns)))) (at + length (bytes_of x))
    (omega (arith, length-append (bytes_of x) (bytes_of y ++ bytes_of_all ns), length-append (bytes_of y) (bytes_of_all ns), bytes_some y))

-- with room for the text of the numbers and 48 bytes more, all of them are laid out
lays_all : (ns : List ℕ) (most : ℕ) (pre : List ℕ) (room : ℕ) (p : Place) → Small ns → p.at ≡ length (bytes_of_all pre) → length ns ≤ most
    → length (text_from p ns) + 48 ≤ room → lays most (bytes_of_all (pre ++ ns)) room p ≡ text_from p ns
unfolding lays lays_number text_at after_at text_from bytes_of_all
lays_all [] zero pre room p small e few h = refl
lays_all [] (suc most) pre room p small e few h =
    let none : number_in (drop p.at (bytes_of_all (pre ++ []))) ≡ Refused 1 = ap number_in (from_place pre [] p.at e) ∙ in_cut before in
    rw (le-leb 48 room (omega arith), none)
lays_all (x ∷ ns) zero pre room p small e few h = absurd (omega arith)
lays_all (x ∷ ns) (suc most) pre room p small e few h =
    let size : ℕ = length (bytes_of x) in
    let s : List ℕ = bytes_of_all (pre ++ (x ∷ ns)) in
    let q : Place = place_after p.stage (p.at + size) p.part p.left x in
    let t : List ℕ = piece_text p.stage p.part p.left (is_end ns) x in
    let is : number_in (drop p.at s) ≡ Is x size =
    ap number_in (from_place pre (x ∷ ns) p.at e) ∙ read_back x (bytes_of_all ns) (small x (Memᴰ.head refl)) in
    let next : p.at + size ≡ length (bytes_of_all (pre ++ (x ∷ []))) = ap (λ (k : ℕ). k + size) e ∙ sym (one_longer pre x) in
    let last : leb (length s) (p.at + size) ≡ is_end ns = last_is pre x ns p.at e in
    let after = same_after p.stage (p.at + size) p.part p.left x in
    let same : text_from q ns ≡ text_from (place_after p.stage 0 p.part p.left x) ns =
    text_same q (place_after p.stage 0 p.part p.left x) ns after.stage after.part after.left in
    let long : length (text_from p (x ∷ ns)) ≡ length t + length (text_from q ns) =
    length-append t _ ∙ ap (λ (l : List ℕ). length t + length l) (sym same) in
    let rest : lays most s (room - length t) q ≡ text_from q ns =
    subst (λ (l : List ℕ). lays most (bytes_of_all l) (room - length t) q ≡ text_from q ns) (append_assoc pre (x ∷ []) ns)
    (lays_all ns most (pre ++ (x ∷ [])) (room - length t) q (λ n m. small n (Memᴰ.tail m))
    (after_at_lem p.stage (p.at + size) p.part p.left x ∙ next) (omega arith) (omega (arith, h, long))) in
    rw (le-leb 48 room (omega arith), is, last) (ap (λ (l : List ℕ). t ++ l) (rest ∙ same))

-- each number takes a byte at least
numbers_few : (ns : List ℕ) → length ns ≤ length (bytes_of_all ns)
unfolding bytes_of_all
numbers_few [] = omega arith
numbers_few (x ∷ ns) = omega (arith, length-append (bytes_of x) (bytes_of_all ns), bytes_some x, numbers_few ns)

-- a document of so many bytes is laid out as its listing by one call, in a block of four times as many and 64
pub whole_document : (es : List Entry) → Small (document_numbers es) → length es ≤ 8192 → ((i : ℕ) → i < length es → entry_path es i < 100)
    → (room : ℕ) → 4 * length (bytes_of_all (document_numbers es)) + 64 ≤ room
    → lays (length (bytes_of_all (document_numbers es))) (bytes_of_all (document_numbers es)) room document_start ≡ consistent_text es
unfolding bytes_of_all
whole_document es small few paths room h =
    let is : text_from document_start (document_numbers es) ≡ consistent_text es = document_text es (omega arith) in
    lays_all (document_numbers es) (length (bytes_of_all (document_numbers es))) [] room document_start small refl (numbers_few (document_numbers es))
    (omega (arith, h, ap length is, document_length es small few paths)) ∙ is

-- so are the numbers of evidence as their line
pub whole_evidence : (n : ℕ) (ns : List ℕ) → Small (n ∷ ns) → (room : ℕ) → 4 * length (bytes_of_all (n ∷ ns)) + 64 ≤ room
    → lays (length (bytes_of_all (n ∷ ns))) (bytes_of_all (n ∷ ns)) room evidence_start ≡ inconsistent_text (n ∷ ns)
unfolding bytes_of_all
whole_evidence n ns small room h =
    let is : text_from evidence_start (n ∷ ns) ≡ inconsistent_text (n ∷ ns) = evidence_text n ns in
    lays_all (n ∷ ns) (length (bytes_of_all (n ∷ ns))) [] room evidence_start small refl (numbers_few (n ∷ ns))
    (omega (arith, h, ap length is, evidence_length (n ∷ ns) small)) ∙ is
