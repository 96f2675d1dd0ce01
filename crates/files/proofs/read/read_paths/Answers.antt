-- `files::read::read_paths` meets its contract.
use Rattle.std.proofs.Common.{rules, ◌<◌, ◌≤◌}
use Rattle.std.proofs.lemmas.Result.{err_from_is_err_and}
use Rattle.files.proofs.PathsRead.{paths_laws, paths_start, paths_refused, paths_end}
use Rattle.files.proofs.read.read_paths.Goals as goal

pub loop-own-init : goal.loop-own-init
loop-own-init c = paths_start _ _ _

pub read_path-requires : goal.read_path-requires
read_path-requires c = search (rules, paths_laws)

pub returns-in_err-path : goal.returns-in_err-path
returns-in_err-path c =
    let p = err_from_is_err_and c.from_residual.result c.from_residual.ensures.1 in
    let left : c.loop-own.own < c.args.count = search rules in
    rw (p.1, p.2) (paths_refused _ _ _ _ _ _ _ _ c.loop-own.invariant left _ _ _ c.in_err-path.ensures)

pub loop-own-preserved : goal.loop-own-preserved
loop-own-preserved c = search (rules, paths_laws)

pub returns : goal.returns
returns c =
    let all : c.args.count ≤ c.loop-own.own = search rules in
    let most : c.loop-own.own ≤ c.args.count = search rules in
    paths_end _ _ _ _ _ _ _ _ c.loop-own.invariant c.requires.0 all most
