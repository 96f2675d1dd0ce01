-- How long texts are: at most four bytes for each byte of their numbers, and a word and a line feed besides.
use Prim.Native.Nat.{ℕ, zero, suc, ◌+◌, ◌*◌, ◌/◌, ◌%◌, ◌^◌, ◌<◌, ◌≤◌}
use mathlib.Core.Path.{◌≡◌, refl, ap}
use mathlib.Core.Bool.{Bool, true, false}
use mathlib.Core.List.Memᴰ
use mathlib.Core.List.{List, [], ◌∷◌, ◌++◌, Memᴰ}
use native.Mathlib.Omega.{arith}
use native.Mathlib.Decide.{dec_lt}
use native.Mathlib.Nat.{div-lt_iff_lt-mul, pow-suc}
use lib.ListN.{length, length-append}
use lib.Dec.{eqb}
use Rattle.files.specs.Number.{limit, bytes_of, bytes_of_all}
use Rattle.files.proofs.Numbers.{bytes_long}
use Rattle.files.proofs.FileSizes.{bytes_in, bytes_more, bytes_append, number_short}
use Rattle.documents.specs.PartList.{Entry, entry_path, part_numbers, document_numbers}
use Rattle.listing.specs.Text.{digits_before, digits, spaced, feed}
use Rattle.listing.specs.Lay.{consistent, inconsistent, refused_word, refused_text, inconsistent_text, parts_text, consistent_text}
use Rattle.listing.proofs.Blocks.{before_zero, digits_few}

-- every number is one of a file
abbrev pub Small : List ℕ → Type 0
Small ns = (n : ℕ) → Memᴰ n ns → n < limit

-- ---- digits

tenth : (k n : ℕ) → n < 10 ^ suc k → n / 10 < 10 ^ k
tenth k n h = (div-lt_iff_lt-mul (let z : 0 < 10 = omega arith in z)).1 (rw pow-suc at h)

before_few : (k most n : ℕ) (text : List ℕ) → n < 10 ^ k → length (digits_before most n text) ≤ k + length text
unfolding digits_before
before_few zero most n text h = omega (arith, ap length (before_zero most n text (omega arith)))
before_few (suc k) zero n text h = omega arith
before_few (suc k) (suc most) n text h = by (eqb n 0) refl (before_few k most (n / 10) ((48 + n % 10) ∷ text) (tenth k n h))
  where
    by : (t : Bool) → eqb n 0 ≡ t → length (digits_before most (n / 10) ((48 + n % 10) ∷ text)) ≤ k + suc (length text)
        → length (digits_before (suc most) n text) ≤ suc k + length text
    by true e ih = rw (e, digits_before) (omega arith)
    by false e ih = rw (e, digits_before) (omega arith)

-- a number below a power of ten has no more digits than that
digits_most : (k n : ℕ) → n < 10 ^ suc k → length (digits n) ≤ suc k
unfolding digits
digits_most k n h = omega (arith, before_few k 19 (n / 10) ((48 + n % 10) ∷ []) (tenth k n h))

-- ---- numbers, each after a space

spaced_more : (n : ℕ) (ns : List ℕ) → length (spaced (n ∷ ns)) ≡ 1 + length (digits n) + length (spaced ns)
unfolding spaced
spaced_more n ns = omega (arith, length-append (digits n) (spaced ns))

spaced_none : length (spaced []) ≡ 0
unfolding spaced
spaced_none = refl

-- a number takes a byte and at most three digits and a space, or two bytes and at most five digits and a space
number_length : (n : ℕ) → n < limit → 1 + length (digits n) ≤ 4 * length (bytes_of n)
number_length n h = by (dec_lt n 128)
  where
    by : Dec (n < 128) → 1 + length (digits n) ≤ 4 * length (bytes_of n)
    by (yes l) = omega (arith, digits_most 2 n (omega arith), number_short n l)
    by (no l) = omega (arith, digits_most 4 n (omega arith), ap length (bytes_long n (omega arith)))

number_some : (n : ℕ) → 1 ≤ length (bytes_of n)
number_some n = by (dec_lt n 128)
  where
    by : Dec (n < 128) → 1 ≤ length (bytes_of n)
    by (yes l) = omega (arith, number_short n l)
    by (no l) = omega (arith, ap length (bytes_long n (omega arith)))

numbers_length : (ns : List ℕ) → Small ns → length (spaced ns) ≤ 4 * bytes_in ns
numbers_length [] small = omega (arith, spaced_none)
numbers_length (n ∷ ns) small =
    omega (arith, spaced_more n ns, bytes_more n ns, number_length n (small n (Memᴰ.head refl)), numbers_length ns (λ m i. small m (Memᴰ.tail i)))

-- ---- parts

-- the number of a part, its path and the line feed take at most eight bytes, and its path and child count at least two
parts_length : (n : ℕ) (es : List Entry) → Small (part_numbers es) → n + length es ≤ 10000 → ((i : ℕ) → i < length es → entry_path es i < 100)
    → length (parts_text n es) ≤ 4 * bytes_in (part_numbers es)
unfolding parts_text part_numbers entry_path
parts_length n [] small few paths = omega arith
parts_length n (e ∷ es) small few paths =
    let path : e.path < 100 = paths 0 (omega arith) in
    omega (
      arith,
      length-append (digits n) (spaced (e.path ∷ e.kids) ++ (10 ∷ parts_text (n + 1) es)),
      length-append (spaced (e.path ∷ e.kids)) (10 ∷ parts_text (n + 1) es),
      spaced_more e.path e.kids,
      digits_most 3 n (omega arith),
      digits_most 1 e.path (omega arith),
      numbers_length e.kids (λ m i. small m (Memᴰ.tail (Memᴰ.tail (Memᴰ.append_left (part_numbers es) i)))),
      bytes_more e.path (length e.kids ∷ (e.kids ++ part_numbers es)),
      bytes_more (length e.kids) (e.kids ++ part_numbers es),
      bytes_append e.kids (part_numbers es),
      number_some e.path,
      number_some (length e.kids),
      parts_length (n + 1) es (λ m i. small m (Memᴰ.tail (Memᴰ.tail (Memᴰ.append_right e.kids i)))) (omega arith)
          (λ i h. paths (suc i) (omega arith)),
    )

-- the listing of a document
pub document_length : (es : List Entry) → Small (document_numbers es) → length es ≤ 8192 → ((i : ℕ) → i < length es → entry_path es i < 100)
    → length (consistent_text es) ≤ 4 * length (bytes_of_all (document_numbers es)) + 16
unfolding consistent_text document_numbers consistent bytes_in
document_length es small few paths =
    omega (
      arith,
      length-append (spaced (length es ∷ [])) (10 ∷ parts_text 0 es),
      spaced_more (length es) [],
      spaced_none,
      number_length (length es) (omega arith),
      bytes_more (length es) (part_numbers es),
      parts_length 0 es (λ m i. small m (Memᴰ.tail i)) (omega arith) paths,
    )

-- the line of evidence
pub evidence_length : (ns : List ℕ) → Small ns → length (inconsistent_text ns) ≤ 4 * length (bytes_of_all ns) + 16
unfolding inconsistent_text inconsistent feed bytes_in
evidence_length ns small = omega (arith, length-append (spaced ns) (10 ∷ []), numbers_length ns small)

-- the line of a refusal
pub refused_length : (k at : ℕ) → length (refused_text k at) ≤ 64
unfolding refused_text refused_word feed
refused_length k at =
    omega (
      arith,
      length-append (spaced (k ∷ at ∷ [])) (10 ∷ []),
      spaced_more k (at ∷ []),
      spaced_more at [],
      spaced_none,
      digits_few k,
      digits_few at,
    )
