-- `files::valid::path_depth` meets its contract.
use Rattle.std.proofs.Common.{rules}
use Rattle.files.proofs.Conditions.{test_laws}
use Rattle.files.proofs.Tester.{depth_laws}
use Rattle.files.proofs.valid.path_depth.Goals as goal

pub returns-in_err-ok-clause-depth : goal.returns-in_err-ok-clause-depth
returns-in_err-ok-clause-depth c = search (rules, depth_laws, test_laws)

pub returns-in_err-ok-2-clause-depth : goal.returns-in_err-ok-2-clause-depth
returns-in_err-ok-2-clause-depth c = search (rules, depth_laws, test_laws)

pub returns-then-label-ge-LABELS-clause-depth : goal.returns-then-label-ge-LABELS-clause-depth
returns-then-label-ge-LABELS-clause-depth c = search (rules, depth_laws, test_laws)

pub bounds-depth-parent : goal.bounds-depth-parent
bounds-depth-parent c = search (rules, depth_laws, test_laws)

pub overflow_add-result : goal.overflow_add-result
overflow_add-result c = search (rules, depth_laws, test_laws)

pub returns-clause-depth : goal.returns-clause-depth
returns-clause-depth c = search (rules, depth_laws, test_laws)
