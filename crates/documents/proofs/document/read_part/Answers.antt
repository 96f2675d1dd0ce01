-- `documents::document::read_part` meets its contract: a path, then a child count, then so many children.
use Rattle.std.proofs.Common.{rules, ◌≡◌, ◌<◌, get_or}
use Rattle.std.proofs.lemmas.Result.{err_from_is_err_and}
use Rattle.files.proofs.Readers.{read_passes}
use Rattle.documents.specs.PartList.{path_test}
use Rattle.documents.specs.Reading.{parent_at}
use Rattle.documents.proofs.PartReader.{part_out, part_count_out, part_kids_out, part_is, path_small}
use Rattle.documents.proofs.document.read_part.Goals as goal

pub returns-in_err-path : goal.returns-in_err-path
returns-in_err-path c =
    let p = err_from_is_err_and c.from_residual.result c.from_residual.ensures.1 in
    rw (p.1, p.2) (part_out _ _ _ _ _ 0 _ _ _ _ _ (c.in_err-path.ensures _ (λ n r h t. search rules)))

pub overflow_cast-path : goal.overflow_cast-path
overflow_cast-path c =
    let passes : path_test (parent_at c.args.paths.now.parent) c.args.paths.now.count c.args.n (get_or c.args.namers.now c.args.n 0) c.in_ok-path.field-0 ≡ 0 =
    read_passes _ _ _ _ (c.in_ok-path.ensures (path_test (parent_at c.args.paths.now.parent) c.args.paths.now.count c.args.n (get_or c.args.namers.now c.args.n 0)) (λ n r h t. search rules)) in
    let small : c.in_ok-path.field-0 < 64 = path_small _ _ _ _ _ c.requires.0 passes in
    search rules

pub returns-in_err-many : goal.returns-in_err-many
returns-in_err-many c =
    let p = err_from_is_err_and c.from_residual-in_err-many.result c.from_residual-in_err-many.ensures.1 in
    rw (p.1, p.2) (part_count_out _ _ _ _ _ _ _ _ _ _ (c.in_ok-path.ensures _ (λ n r h t. search rules)) _ _ c.in_err-many.ensures)

pub returns-in_err-read_kids : goal.returns-in_err-read_kids
returns-in_err-read_kids c =
    let p = err_from_is_err_and c.from_residual-in_err-read_kids.result c.from_residual-in_err-read_kids.ensures.1 in
    rw (p.1, p.2)
    (part_kids_out _ _ _ _ _ _ _ _ _ _ (c.in_ok-path.ensures _ (λ n r h t. search rules)) _ _ _ c.in_ok-many.ensures _ c.in_err-read_kids.ensures)

pub returns : goal.returns
returns c = part_is _ _ _ _ _ _ _ _ _ _ (c.in_ok-path.ensures _ (λ n r h t. search rules)) _ _ _ c.in_ok-many.ensures c.in_ok-read_kids.ensures
