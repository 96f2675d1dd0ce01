-- The examples, by computation of what the calls answer.
use Prim.Native.Nat.{ℕ}
use mathlib.Core.Path.{◌≡◌, refl}
use mathlib.Core.List.{map}
use Rattle.files.specs.Sets.{below_all}
use Rattle.files.specs.TableTest.{path_passes, paths_pass, rule_passes, rules_pass, required_pass, paths_valid, rules_valid, table_passes}
use Rattle.files.specs.Writing.{put}
use Rattle.files.proofs.LiteralFiles.{filing}
use Rattle.theory.proofs.Computing.{computing}
use Rattle.reasoning.specs.Calls.{answer_of, answered, document_bytes, inconsistent_bytes, evidence_bytes, consistency_answer, askable, ask_answer}
use Rattle.reasoning.specs.Examples.{verdict_told, reply_told, table_told, read_told, answer_to, Example, examples}

-- what the calls' answers to a file are computed from, under one name
unfoldable pub answering : ℕ
unfolding consistency_answer ask_answer askable answered answer_of document_bytes inconsistent_bytes evidence_bytes put table_passes paths_valid rules_valid
    paths_pass path_passes rules_pass rule_passes required_pass below_all filing computing
answering = 0

-- every example has its answer
pub examples_hold : map answer_to examples ≡ map (λ (e : Example). e.answer) examples
unfolding answer_to verdict_told reply_told table_told read_told answering
examples_hold = refl
