-- `files::read::read_file` meets its contract: the sections, to the end of the bytes.
use Rattle.std.proofs.lemmas.Result.{err_from_is_err_and}
use Rattle.files.proofs.Readers.{whole_out, whole_end}
use Rattle.files.proofs.read.read_file.Goals as goal

pub returns-in_err-read_sections : goal.returns-in_err-read_sections
returns-in_err-read_sections c =
    let p = err_from_is_err_and c.from_residual.result c.from_residual.ensures.1 in
    rw (p.1, p.2) (whole_out _ _ c.args.bytes.now _ _ c.new-reader.ensures.bytes c.new-reader.ensures.start _ c.in_err-read_sections.ensures)

pub returns : goal.returns
returns c =
    whole_end _ _ c.args.bytes.now _ _ c.new-reader.ensures.bytes c.new-reader.ensures.start _ c.in_ok-read_sections.ensures _ c.end.ensures
