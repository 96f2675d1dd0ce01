-- The document that a call hands back over a valid table: its bytes are read back as a list of parts that stands for a tree, and
-- they are at most 65,536; the bytes of evidence are at most 784.
use Prim.Native.Nat.{ℕ, ◌*◌, ◌≤◌}
use mathlib.Core.Path.{◌≡◌, refl, sym, ap, subst, ◌∙◌}
use mathlib.Core.List.{List}
use native.Mathlib.Omega.{arith}
use lib.ListN.{length}
use Rattle.files.specs.declared.rules.Rules.{Rules}
use Rattle.files.specs.Format.{got, run_all}
use Rattle.files.specs.Number.{bytes_of_all}
use Rattle.files.specs.Rules.{ValidTable}
use Rattle.files.proofs.FileSizes.{bytes_in}
use Rattle.documents.specs.Tree.{Forest}
use Rattle.documents.specs.PartList.{Entry, document_file, document_numbers, ValidParts, StandsFor}
use Rattle.documents.proofs.ValidLists.{valid_read}
use Rattle.documents.proofs.CheckingJoins.{few_paths, below_64}
use Rattle.documents.specs.Judgement.{parents_of}
use Rattle.reasoning.specs.Calls.{rule_list_of, document_bytes, IsDocument, HandsBack}
use Rattle.theory.specs.Evidence.{Bounded}
use Rattle.theory.specs.Handed.{Start, handed_entries, handed_numbers}
use Rattle.theory.specs.Reachable.{reachable}
use Rattle.theory.proofs.HandedRows.{Begins}
use Rattle.theory.proofs.HandedDocuments.{document_tree, document_written, document_only, document_bytes_lem, document_part_list}
use Rattle.theory.proofs.Sizes.{numbers_bytes}
use Rattle.reasoning.proofs.ValidFits.{table_fits, table_shallow}

module _ (t : Rules) (v : ValidTable t) {goals : List ℕ} {start : Start} (begins : Begins (parents_of t) t.paths goals start) where
  -- the bytes are read back as parts that stand for a tree, of which holds what holds of every tree that they stand for
  pub hands_back : {Good : Forest → Type 0}
      → ((d : Forest)
      → StandsFor (handed_entries (parents_of t) t.paths (reachable (parents_of t) (rule_list_of t) t.paths) start) d → Good d)
      → HandsBack t (document_bytes t start) Good
  unfolding document_bytes handed_numbers
  hands_back good =
      let es = handed_entries (parents_of t) t.paths (reachable (parents_of t) (rule_list_of t) t.paths) start in
      let d = document_tree (table_fits t v) (table_shallow t v) begins in
      record {
        parts = es;
        read = valid_read (parents_of t) t.paths v.some (few_paths t v) (below_64 t v) es
            (document_part_list (table_fits t v) (table_shallow t v) begins);
        tree = d.0;
        stands = d.1;
        good = good d.0 d.1;
      }

  -- the bytes are those of the document that 01 writes down
  pub document_is : IsDocument t goals (document_bytes t start)
  unfolding document_bytes handed_numbers
  document_is = record {
    parts = handed_entries (parents_of t) t.paths (reachable (parents_of t) (rule_list_of t) t.paths) start;
    written = document_written (table_fits t v) (table_shallow t v) begins;
    are = refl;
  }

  -- and no others are
  pub document_same : {bytes others : List ℕ} → IsDocument t goals bytes → IsDocument t goals others → bytes ≡ others
  document_same d e =
      d.are
      ∙ ap (λ (es : List Entry). bytes_of_all (document_numbers es))
      (document_only (table_fits t v) (table_shallow t v) begins d.written
      ∙ sym (document_only (table_fits t v) (table_shallow t v) begins e.written))
      ∙ sym e.are

  -- its parts break no condition of 01
  pub document_valid : {bytes : List ℕ} (d : IsDocument t goals bytes) → ValidParts (parents_of t) t.paths d.parts
  document_valid d =
      subst (ValidParts (parents_of t) t.paths) (sym (document_only (table_fits t v) (table_shallow t v) begins d.written))
      (document_part_list (table_fits t v) (table_shallow t v) begins)

  -- and are what the reader of documents reads
  pub document_read : {bytes : List ℕ} (d : IsDocument t goals bytes)
      → run_all (document_file (parents_of t) t.paths) bytes ≡ got d.parts (length bytes)
  document_read d =
      subst (λ (s : List ℕ). run_all (document_file (parents_of t) t.paths) s ≡ got d.parts (length s)) (sym d.are)
      (valid_read (parents_of t) t.paths v.some (few_paths t v) (below_64 t v) d.parts (document_valid d))

  -- a document takes at most 65,536 bytes
  pub document_room : length (document_bytes t start) ≤ 65536
  unfolding document_bytes
  document_room = document_bytes_lem (table_fits t v) (table_shallow t v) begins

-- n numbers of evidence take at most 2 n bytes
pub bounded_bytes : {n : ℕ} {numbers : List ℕ} → Bounded n numbers → length (bytes_of_all numbers) ≤ 2 * n
unfolding bytes_in
bounded_bytes {n} {numbers} b = omega (arith, b.few, numbers_bytes numbers)
