-- `documents::check::check_document` meets its contract.
use native.Mathlib.Omega.{arith}
use borrow.Author.Rules.{rules}
use Rattle.documents.proofs.CheckingJoins.{checks}
use Rattle.documents.proofs.Checks.{answer_laws}
use Rattle.files.proofs.Writer.{some_paths, few_paths, few_rules_lem}
use Rattle.documents.proofs.check.check_document.Goals as goal

pub returns-then-not-valid_table : goal.returns-then-not-valid_table
returns-then-not-valid_table c = checks _ _ _ (search rules) (λ i. omega (arith, c.type_inv.document i)) (search (rules, answer_laws))

pub returns-then-document-gt-LONGEST : goal.returns-then-document-gt-LONGEST
returns-then-document-gt-LONGEST c = checks _ _ _ (search rules) (λ i. omega (arith, c.type_inv.document i))
    (search (rules, answer_laws))

pub check_parts-requires : goal.check_parts-requires
check_parts-requires c = search (rules, answer_laws, some_paths, few_paths, few_rules_lem)

pub returns : goal.returns
returns c = checks _ _ _ (search rules) (λ i. omega (arith, c.type_inv.document i))
    (search (rules, answer_laws))
