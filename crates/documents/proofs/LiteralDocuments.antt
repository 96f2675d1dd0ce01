-- The literal documents by computation: which rule, part and path is named where several could be.
use mathlib.Core.Path.{◌≡◌, refl}
use mathlib.Core.List.{map}
use lib.Count.{count_trailing_zeros, count_leading_zeros}
use Rattle.files.specs.Sets.{union, common, difference, below_all, lowest}
use Rattle.files.specs.TableTest.{path_passes, paths_pass, rule_passes, rules_pass, required_pass, paths_valid, rules_valid, table_passes}
use Rattle.files.proofs.LiteralFiles.{filing}
use Rattle.documents.specs.Checking.{held_by, held_from, held, breaks, break_from, or_later, broken_from, or_missing, verdict, judged, check_answer}
use Rattle.documents.specs.LiteralDocuments.{LiteralDocument, literal_documents}
use Rattle.documents.specs.PartList.{listed, namers, named_test, path_test, kids_on, part_at, one_part, more_parts, document_file}
use Rattle.documents.specs.Paths.{meet, context_of}

pub literal_documents_lem : map (λ (l : LiteralDocument). check_answer l.file.table l.document) literal_documents
    ≡ map (λ (l : LiteralDocument). l.answer) literal_documents
unfolding filing count_trailing_zeros count_leading_zeros union common difference below_all lowest path_passes paths_pass rule_passes rules_pass required_pass paths_valid
    rules_valid table_passes held_by held_from held breaks break_from or_later broken_from or_missing verdict judged check_answer listed namers named_test
    path_test kids_on part_at one_part more_parts document_file meet context_of
literal_documents_lem = refl
