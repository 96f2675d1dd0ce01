-- What the functions of the part-list reader answer.
use Rattle.std.specs.Prelude.{ℕ, zero, suc, ◌+◌, ◌≤◌, ◌<◌, ◌≡◌, cond, List, [], ◌∷◌, length, get_or, drop, ltb}
use Rattle.files.specs.declared.reader.Reader.{Reader}
use Rattle.files.specs.Number.{Begun, Is, Refused, number_in}
use Rattle.files.specs.Format.{Outcome, got}
use Rattle.files.specs.Sets.{with_path}
use Rattle.documents.specs.declared.document.OnePart.{OnePart}
use Rattle.documents.specs.declared.document.Parts.{Parts}
use Rattle.documents.specs.PartList.{part_limit, Entry, listed}

-- the parent of a path as an array of 64 has it; 0 past it
unfoldable pub parent_at : List ℕ → ℕ → ℕ
parent_at parent x = cond (ltb x 64) (get_or parent x 0) 0

-- what follows a number, if one stands there
unfoldable pub on_kid : (ℕ → ℕ → List ℕ) → Begun → List ℕ
on_kid follow (Is k width) = follow k width
on_kid follow (Refused k) = []

-- so many numbers that stand at `at`, up to the first that is none
unfoldable pub kids_from : List ℕ → ℕ → ℕ → List ℕ
kids_from s at zero = []
kids_from s at (suc k) = on_kid (λ x width. x ∷ kids_from s (at + width) k) (number_in (drop at s))

-- the numbers whose count stands at `at`
unfoldable pub kids_at : List ℕ → ℕ → List ℕ
kids_at s at = on_kid (λ k width. kids_from s (at + width) k) (number_in (drop at s))

-- so many parts from number n on, as the arrays have their paths and the places of their child counts
unfoldable pub entries_from : (s path place : List ℕ) → ℕ → ℕ → List Entry
entries_from s path place n zero = []
entries_from s path place n (suc k) =
    record { path = get_or path n 0; kids = kids_at s (get_or place n 0) } ∷ entries_from s path place (n + 1) k

-- the parts ks, and no others, get path p among their namers' paths
pub record Marked (p : ℕ) (ks before after : List ℕ) : Type 0 where
  pub same : length after ≡ length before
  pub each : (m : ℕ) → m < part_limit → get_or after m 0 ≡ cond (listed m ks) (with_path (get_or before m 0) p) (get_or before m 0)

-- so many children of a part on path p were read from where the reader stood, and marked
pub record KidsAre (old : Reader) (many p : ℕ) (before after : List ℕ) (r : Unit {0}) (ks : List ℕ) : Type 0 where
  pub kids : kids_from old.bytes.now old.at many ≡ ks
  pub marked : Marked p ks before after

-- what was read is this part, and its children are marked
pub record PartIs (s before after : List ℕ) (r : OnePart) (e : Entry) : Type 0 where
  pub path : r.path ≡ e.path
  pub kids : kids_at s r.place ≡ e.kids
  pub marked : Marked e.path e.kids before after

-- these parts were read
pub record PartsAre (s : List ℕ) (parts : Parts) (r : Unit {0}) (es : List Entry) : Type 0 where
  pub entries : entries_from s parts.path parts.place 0 parts.count ≡ es

-- what was read of a document are the parts that reading answers
pub record DocumentIs (s : List ℕ) (o : Outcome (List Entry)) (r : Parts) : Type 0 where
  pub after : ℕ
  pub answer : o ≡ got (entries_from s r.path r.place 0 r.count) after
  pub some : 1 ≤ r.count
  pub most : r.count ≤ part_limit
