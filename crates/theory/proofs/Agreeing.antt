-- Whatever words the reachable sets are read from, the same document is written: each is the one that 01's words give.
use Prim.Native.Nat.{ℕ, ◌≤◌, ◌<◌}
use mathlib.Core.Path.{◌≡◌, ap}
use mathlib.Core.List.{List}
use Rattle.files.specs.Table.{Rule}
use Rattle.documents.specs.Paths.{depth_of}
use Rattle.documents.specs.PartList.{document_numbers}
use Rattle.theory.specs.Reachable.{Fits, reachable}
use Rattle.theory.specs.Handed.{Start, ReachWords, handed_entries, handed_numbers}
use Rattle.theory.proofs.Children.{computed_words}
use Rattle.theory.proofs.Handed.{handed_writes}
use Rattle.theory.proofs.HandedDocuments.{document_only}
use Rattle.theory.proofs.HandedRows.{Begins, words_decide}

module _ {parent : ℕ → ℕ} {rules : List Rule} {count : ℕ} {R : ℕ → ℕ → ℕ} {goals : List ℕ} {start : Start} (fits : Fits parent rules count)
    (shallow : (x : ℕ) → x < count → depth_of parent x ≤ 8) (words : ReachWords parent rules count R)
    (begins : Begins parent count goals start) where
  handed_agree : handed_entries parent count R start ≡ handed_entries parent count (reachable parent rules count) start
  handed_agree =
      document_only fits shallow begins
      (computed_words fits.descending fits.rules_in (words_decide words) begins.goals_in
      (handed_writes fits.descending fits.rules_in fits.few shallow words begins))

  -- a document from any words of the reachable sets is the one from the computed sets
  pub numbers_agree : handed_numbers parent count R start ≡ handed_numbers parent count (reachable parent rules count) start
  unfolding handed_numbers
  numbers_agree = ap document_numbers handed_agree
