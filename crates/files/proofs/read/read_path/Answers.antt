-- `files::read::read_path` meets its contract: a parent, then a label.
use Rattle.std.proofs.Common.{rules, refl, sym, ◌∙◌, ◌≡◌, ◌+◌, ◌-◌, ◌<◌, length, get_or, arith}
use Rattle.std.proofs.lemmas.Result.{err_from_is_err_and}
use Rattle.files.specs.Reading.{PathIs}
use Rattle.files.specs.Refusals.{test_number}
use Rattle.files.specs.RuleFile.{one_path, path_label, label_test, parent_test, depths}
use Rattle.files.specs.Rules.{paths_from}
use Rattle.files.proofs.PathTests.{parent_padded, paths_own, passes_below, passes_shallow}
use Rattle.files.proofs.Readers.{wants_out, wants_then, reads_done, read_passes}
use Rattle.files.proofs.read.read_path.Goals as goal

pub returns-in_err-parent : goal.returns-in_err-parent
unfolding one_path
returns-in_err-parent c =
    let ps = paths_from c.args.parents.now c.args.labels.now 1 (c.args.own - 1) in
    let p = err_from_is_err_and c.from_residual.result c.from_residual.ensures.1 in
    let reads =
    c.in_err-parent.ensures (parent_test (depths ps) (1 + length ps))
    (λ n r h t.
    let said : test_number r ≡ parent_test c.args.depth.now c.args.own n = search rules in
    said ∙ sym (parent_padded ps _ _ n c.requires.2 (paths_own _ _ _ c.requires.0))) in
    rw (p.1, p.2) (wants_out (PathIs c.args.depth.now) _ _ _ _ _ reads)

pub returns-in_err-label : goal.returns-in_err-label
unfolding one_path path_label
returns-in_err-label c =
    let ps = paths_from c.args.parents.now c.args.labels.now 1 (c.args.own - 1) in
    let p = err_from_is_err_and c.from_residual-in_err-label.result c.from_residual-in_err-label.ensures.1 in
    let parent =
    c.in_ok-parent.ensures (parent_test (depths ps) (1 + length ps))
    (λ n r h t.
    let said : test_number r ≡ parent_test c.args.depth.now c.args.own n = search rules in
    said ∙ sym (parent_padded ps _ _ n c.requires.2 (paths_own _ _ _ c.requires.0))) in
    let reads = c.in_err-label.ensures (label_test ps c.in_ok-parent.parent) (λ n r h t. search rules) in
    rw (p.1, p.2)
    (wants_then (PathIs c.args.depth.now) _ _ _ _ _ _ _ parent (wants_out (PathIs c.args.depth.now) _ _ _ _ _ reads))

pub overflow_cast-result : goal.overflow_cast-result
overflow_cast-result c =
    let passes : parent_test c.args.depth.now c.args.own c.in_ok-parent.parent ≡ 0 =
    read_passes _ _ _ _ (c.in_ok-parent.ensures (parent_test c.args.depth.now c.args.own) (λ n r h t. search rules)) in
    let below : c.in_ok-parent.parent < c.args.own = passes_below _ _ _ passes in
    search rules

pub bounds-depth-parent : goal.bounds-depth-parent
bounds-depth-parent c =
    let passes : parent_test c.args.depth.now c.args.own c.in_ok-parent.parent ≡ 0 =
    read_passes _ _ _ _ (c.in_ok-parent.ensures (parent_test c.args.depth.now c.args.own) (λ n r h t. search rules)) in
    let below : c.in_ok-parent.parent < c.args.own = passes_below _ _ _ passes in
    search rules

pub overflow_add-result : goal.overflow_add-result
overflow_add-result c =
    let passes : parent_test c.args.depth.now c.args.own c.in_ok-parent.parent ≡ 0 =
    read_passes _ _ _ _ (c.in_ok-parent.ensures (parent_test c.args.depth.now c.args.own) (λ n r h t. search rules)) in
    let shallow : get_or c.args.depth.now c.in_ok-parent.parent 0 < 8 = passes_shallow _ _ _ passes in
    search rules

pub returns : goal.returns
unfolding one_path path_label
returns c =
    let ps = paths_from c.args.parents.now c.args.labels.now 1 (c.args.own - 1) in
    let parent =
    c.in_ok-parent.ensures (parent_test (depths ps) (1 + length ps))
    (λ n r h t.
    let said : test_number r ≡ parent_test c.args.depth.now c.args.own n = search rules in
    said ∙ sym (parent_padded ps _ _ n c.requires.2 (paths_own _ _ _ c.requires.0))) in
    let label = c.in_ok-label.ensures (label_test ps c.in_ok-parent.parent) (λ n r h t. search rules) in
    wants_then (PathIs c.args.depth.now) _ _ _ _ _ _ _ parent
    (wants_then (PathIs c.args.depth.now) _ _ _ _ _ _ _ label
    (reads_done (PathIs c.args.depth.now) _ _ _ (record { parent = refl; label = refl; depth = omega arith })))
