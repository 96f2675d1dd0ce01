-- `files::read::read_sections` meets its contract: section after section.
use Rattle.std.proofs.Common.{arith}
use Rattle.std.proofs.lemmas.Result.{err_from_is_err_and}
use Rattle.files.proofs.Sections.{count_out, root_out, paths_out, many_out, required_out, rules_out, list_out, count_on, root_on, paths_on, many_on, required_on_lem, rules_on, list_on}
use Rattle.files.proofs.read.read_sections.Goals as goal

pub returns-in_err-count : goal.returns-in_err-count
returns-in_err-count c =
    let p = err_from_is_err_and c.from_residual.result c.from_residual.ensures.1 in
    rw (p.1, p.2)
    (count_out _ _ _ _ c.in_err-count.ensures.reads)

pub returns-in_err-root : goal.returns-in_err-root
returns-in_err-root c =
    let p = err_from_is_err_and c.from_residual-in_err-root.result c.from_residual-in_err-root.ensures.1 in
    rw (p.1, p.2)
    (count_on _ _ _ _ _ _ c.in_ok-count.ensures.reads
    (root_out _ _ _ _ _ c.in_err-root.ensures))

pub returns-in_err-read_paths : goal.returns-in_err-read_paths
returns-in_err-read_paths c =
    let p = err_from_is_err_and c.from_residual-in_err-read_paths.result c.from_residual-in_err-read_paths.ensures.1 in
    rw (p.1, p.2)
    (count_on _ _ _ _ _ _ c.in_ok-count.ensures.reads
    (root_on _ _ _ _ _ _ _ c.in_ok-root.ensures
    (paths_out _ _ _ _ _ _ _ c.in_err-read_paths.ensures)))

pub read_paths-requires : goal.read_paths-requires
read_paths-requires c = (c.in_ok-count.ensures.within.0, omega (arith, c.in_ok-count.ensures.within.1))

pub returns-in_err-many : goal.returns-in_err-many
returns-in_err-many c =
    let p = err_from_is_err_and c.from_residual-in_err-many.result c.from_residual-in_err-many.ensures.1 in
    rw (p.1, p.2)
    (count_on _ _ _ _ _ _ c.in_ok-count.ensures.reads
    (root_on _ _ _ _ _ _ _ c.in_ok-root.ensures
    (paths_on _ _ _ _ _ _ _ _ _ c.in_ok-read_paths.ensures (λ ps are.
    many_out _ _ _ _ ps _ c.in_err-many.ensures))))

pub returns-in_err-required : goal.returns-in_err-required
returns-in_err-required c =
    let p = err_from_is_err_and c.from_residual-in_err-required.result c.from_residual-in_err-required.ensures.1 in
    rw (p.1, p.2)
    (count_on _ _ _ _ _ _ c.in_ok-count.ensures.reads
    (root_on _ _ _ _ _ _ _ c.in_ok-root.ensures
    (paths_on _ _ _ _ _ _ _ _ _ c.in_ok-read_paths.ensures (λ ps are.
    many_on _ _ _ _ _ _ _ ps c.in_ok-many.ensures
    (required_out _ _ _ _ _ ps are.many _ _ c.in_err-required.ensures)))))

pub returns-in_err-listed : goal.returns-in_err-listed
returns-in_err-listed c =
    let p = err_from_is_err_and c.from_residual-in_err-listed.result c.from_residual-in_err-listed.ensures.1 in
    rw (p.1, p.2)
    (count_on _ _ _ _ _ _ c.in_ok-count.ensures.reads
    (root_on _ _ _ _ _ _ _ c.in_ok-root.ensures
    (paths_on _ _ _ _ _ _ _ _ _ c.in_ok-read_paths.ensures (λ ps are.
    many_on _ _ _ _ _ _ _ ps c.in_ok-many.ensures
    (required_on_lem _ _ _ _ _ _ _ ps are.many _ _ c.in_ok-required.ensures (λ req set.
    rules_out _ _ _ _ ps req _ c.in_err-listed.ensures.reads))))))

pub read_rule_list-requires : goal.read_rule_list-requires
read_rule_list-requires c = (omega (arith, c.in_ok-count.ensures.within.1), omega (arith, c.in_ok-listed.ensures.within.1))

pub returns-in_err-read_rule_list : goal.returns-in_err-read_rule_list
returns-in_err-read_rule_list c =
    let p = err_from_is_err_and c.from_residual-in_err-read_rule_list.result c.from_residual-in_err-read_rule_list.ensures.1 in
    rw (p.1, p.2)
    (count_on _ _ _ _ _ _ c.in_ok-count.ensures.reads
    (root_on _ _ _ _ _ _ _ c.in_ok-root.ensures
    (paths_on _ _ _ _ _ _ _ _ _ c.in_ok-read_paths.ensures (λ ps are.
    many_on _ _ _ _ _ _ _ ps c.in_ok-many.ensures
    (required_on_lem _ _ _ _ _ _ _ ps are.many _ _ c.in_ok-required.ensures (λ req set.
    rules_on _ _ _ _ _ _ _ ps req c.in_ok-listed.ensures.reads
    (list_out _ _ _ _ _ ps are.many _ _ req _ c.in_err-read_rule_list.ensures)))))))

pub returns : goal.returns
returns c =
    count_on _ _ _ _ _ _ c.in_ok-count.ensures.reads
    (root_on _ _ _ _ _ _ _ c.in_ok-root.ensures
    (paths_on _ _ _ _ _ _ _ _ _ c.in_ok-read_paths.ensures (λ ps are.
    many_on _ _ _ _ _ _ _ ps c.in_ok-many.ensures
    (required_on_lem _ _ _ _ _ _ _ ps are.many _ _ c.in_ok-required.ensures (λ req set.
    rules_on _ _ _ _ _ _ _ ps req c.in_ok-listed.ensures.reads
    (list_on _ _ _ _ _ _ ps are _ _ req set _ _ _ c.in_ok-read_rule_list.ensures))))))
