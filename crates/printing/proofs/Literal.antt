-- Three files and the text that is printed for each, byte for byte, by computation from the file's bytes.
use Prim.Native.Nat.{ℕ}
use mathlib.Core.Path.{◌≡◌, refl}
use mathlib.Core.List.{List, [], ◌∷◌}
use Rattle.files.specs.LiteralFiles.{listed_file}
use Rattle.documents.specs.PartList.{listed, namers, named_test, path_test, kids_on, part_at, one_part, more_parts, document_file}
use Rattle.listing.specs.Text.{digits_before, digits, spaced, feed}
use Rattle.listing.specs.Lay.{consistent, inconsistent, refused_word, refused_text, inconsistent_text, parts_text, consistent_text}
use Rattle.reasoning.proofs.Examples.{answering}
use Rattle.printing.specs.Printing.{parts_listing, verdict_text, rules_text, answer_text, printed_text}

-- 01's listing
abbrev listing_text : List ℕ
listing_text =
    99 ∷ 111 ∷ 110 ∷ 115 ∷ 105 ∷ 115 ∷ 116 ∷ 101 ∷ 110 ∷ 116 ∷ 32 ∷ 54 ∷ 10 ∷ 48 ∷ 32 ∷ 48 ∷ 32 ∷ 49 ∷ 32 ∷ 50 ∷ 32 ∷ 51 ∷
    10 ∷ 49 ∷ 32 ∷ 49 ∷ 32 ∷ 52 ∷ 10 ∷ 50 ∷ 32 ∷ 49 ∷ 32 ∷ 53 ∷ 10 ∷ 51 ∷ 32 ∷ 52 ∷ 10 ∷ 52 ∷ 32 ∷ 50 ∷ 10 ∷ 53 ∷ 32 ∷ 51 ∷
    10 ∷ []

-- rule 2 x 4 over T, 2 and 4 required (E5)
abbrev inconsistent_file : List ℕ
inconsistent_file =
    5 ∷ 10 ∷ 0 ∷ 11 ∷ 1 ∷ 12 ∷ 1 ∷ 13 ∷ 0 ∷ 14 ∷ 2 ∷ 2 ∷ 4 ∷ 1 ∷ 2 ∷ 2 ∷ 4 ∷ []

-- `inconsistent 3 2 4 0 0 0 0` and a line feed
abbrev inconsistent_line : List ℕ
inconsistent_line =
    105 ∷ 110 ∷ 99 ∷ 111 ∷ 110 ∷ 115 ∷ 105 ∷ 115 ∷ 116 ∷ 101 ∷ 110 ∷ 116 ∷ 32 ∷ 51 ∷ 32 ∷ 50 ∷ 32 ∷ 52 ∷ 32 ∷ 48 ∷ 32 ∷ 48 ∷
    32 ∷ 48 ∷ 32 ∷ 48 ∷ 10 ∷ []

-- four paths, and path 3 has parent 3
abbrev refused_file : List ℕ
refused_file = 4 ∷ 10 ∷ 0 ∷ 11 ∷ 1 ∷ 12 ∷ 3 ∷ 13 ∷ 0 ∷ 0 ∷ []

-- `refused 4 6` and a line feed
abbrev refused_line : List ℕ
refused_line = 114 ∷ 101 ∷ 102 ∷ 117 ∷ 115 ∷ 101 ∷ 100 ∷ 32 ∷ 52 ∷ 32 ∷ 54 ∷ 10 ∷ []

-- what the text is computed from, under one name
unfoldable writing : ℕ
unfolding printed_text answer_text rules_text verdict_text parts_listing consistent_text parts_text inconsistent_text refused_text consistent inconsistent
    refused_word digits digits_before spaced feed document_file more_parts one_part part_at kids_on path_test named_test namers listed answering
writing = 0

-- the listing of 01
pub listing_printed : printed_text listed_file.bytes ≡ listing_text
unfolding writing
listing_printed = refl

-- an inconsistent set
pub inconsistent_printed : printed_text inconsistent_file ≡ inconsistent_line
unfolding writing
inconsistent_printed = refl

-- a refused file
pub refused_printed : printed_text refused_file ≡ refused_line
unfolding writing
refused_printed = refl
