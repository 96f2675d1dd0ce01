-- `documents::document::read_document` meets its contract: a part count, so many parts, to the end of the bytes.
use Rattle.std.proofs.lemmas.Result.{err_from_is_err_and}
use Rattle.files.proofs.Readers.{whole_out}
use Rattle.documents.specs.Reading.{parent_at}
use Rattle.documents.proofs.PartLists.{count_out, list_on, document_end}
use Rattle.documents.proofs.document.read_document.Goals as goal

pub returns-in_err-count : goal.returns-in_err-count
returns-in_err-count c =
    let p = err_from_is_err_and c.from_residual.result c.from_residual.ensures.1 in
    rw (p.1, p.2)
    (whole_out _ _ c.args.document.now _ _ c.new-reader.ensures.bytes c.new-reader.ensures.start _
    (count_out (parent_at c.args.paths.now.parent) c.args.paths.now.count _ _ c.args.parts.now _ c.in_err-count.ensures.reads))

pub returns-in_err-read_parts : goal.returns-in_err-read_parts
returns-in_err-read_parts c =
    let p = err_from_is_err_and c.from_residual-in_err-read_parts.result c.from_residual-in_err-read_parts.ensures.1 in
    rw (p.1, p.2)
    (whole_out _ _ c.args.document.now _ _ c.new-reader.ensures.bytes c.new-reader.ensures.start _
    (list_on (parent_at c.args.paths.now.parent) c.args.paths.now.count _ _ _ _ _ c.in_ok-count.ensures.reads _ c.in_err-read_parts.ensures))

pub returns : goal.returns
returns c =
    document_end (parent_at c.args.paths.now.parent) c.args.paths.now.count _ _ _ _ _ c.in_ok-count.ensures.reads c.in_ok-read_parts.ensures
    c.args.document.now c.new-reader.ensures.bytes c.new-reader.ensures.start c.in_ok-count.ensures.within.0 c.in_ok-count.ensures.within.1 _ c.end.ensures
