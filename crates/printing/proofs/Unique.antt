-- No second length, and no second block, meets the contract of printing; and no accepted file has a refusal's line.
use Prim.Native.Nat.{ℕ, ◌<◌}
use mathlib.Core.Path.{◌≡◌, sym, ◌∙◌}
use mathlib.Core.List.{List}
use native.Mathlib.Decide.{dec_lt}
use native.Mathlib.Omega.{arith}
use lib.ListN.{length}
use Rattle.files.specs.Reading.{Answer, Reading, ReadRules}
use Rattle.listing.specs.Lay.{consistent, inconsistent, refused_word, refused_text, inconsistent_text, consistent_text}
use Rattle.printing.specs.Printing.{TEXT, lists, shows, Says, refuses, accepts, Prints}

pub prints_unique : (file out : List ℕ) (r q : ℕ) (after other : List ℕ) → Prints file out r after → Prints file out q other
    → (r ≡ q) × (after ≡ other)
prints_unique file out r q after other h g = by (dec_lt (length out) TEXT)
  where
    by : Dec (length out < TEXT) → (r ≡ q) × (after ≡ other)
    by (yes l) = ((h.short l).0 ∙ sym (g.short l).0, (h.short l).1 ∙ sym (g.short l).1)
    by (no l) =
        let a = h.printed (omega arith) in
        let b = g.printed (omega arith) in
        (a.next ∙ sym b.next, a.bytes ∙ sym b.bytes)

-- what is said of an accepted file is no refusal's line: another word begins it
pub accepted_no_refusal : (file : List ℕ) (r : Reading) → ReadRules file r → r.answer ≡ Answer.Accepted → (text : List ℕ) → Says file text
    → (k at : ℕ) → text ≡ refused_text k at → ⊥
unfolding consistent_text consistent inconsistent_text inconsistent refused_text refused_word
accepted_no_refusal file r h e text (refuses n o m f) k at g =
    let was : Answer.Refused n o ≡ Answer.Accepted = sym (h.refuses n o m) ∙ e in
    let z : ◌≡◌ {A = ℕ} 0 1 = cc in omega arith
accepted_no_refusal file r h e text (accepts q v f (lists parts w i)) k at g =
    let same : consistent_text parts ≡ refused_text k at = sym i ∙ g in
    let z : ◌≡◌ {A = ℕ} 99 114 = cc in omega arith
accepted_no_refusal file r h e text (accepts q v f (shows numbers w i)) k at g =
    let same : inconsistent_text numbers ≡ refused_text k at = sym i ∙ g in
    let z : ◌≡◌ {A = ℕ} 105 114 = cc in omega arith
