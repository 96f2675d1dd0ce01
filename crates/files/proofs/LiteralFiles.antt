-- The literal files by computation: what the bytes of a rule file mean is fixed apart from the format that reader and writer share.
use Prim.Native.Nat.{ℕ}
use mathlib.Core.Path.{◌≡◌, refl, ◌∙◌}
use Rattle.files.specs.Format.{and_then, on_test, on_number, run, at_end, run_all}
use Rattle.files.specs.LiteralFiles.{LiteralFile, Literally, listed_file, full_file}
use Rattle.files.specs.Number.{bytes_of, bytes_of_all, two_bytes, second_in, number_in}
use Rattle.files.specs.Reading.{Accepted, Reading, reading_of, read_answer, ReadRules}
use Rattle.files.specs.RuleFile.{between, deeper, depths, parent_test, same_child, repeats, label_test, path_label, one_path, more_paths, more_ascending, rule_right, rule_left, one_rule, more_rules, rules_to_end, after_required, required_on, after_paths, after_root, after_count, rule_file, path_numbers, rule_numbers, numbers_of, file_of}
use Rattle.files.specs.Rules.{paths_from, rules_from, padded, rules_of, add_all, table_of, no_rules}
use Rattle.files.specs.Sets.{bit, hasb, with_path, members_from, members}

-- what reading and writing a file are computed from, under one name
unfoldable pub filing : ℕ
unfolding read_answer reading_of run_all run at_end on_number on_test number_in second_in two_bytes and_then between deeper depths parent_test same_child repeats
    label_test path_label one_path more_paths more_ascending rule_right rule_left one_rule more_rules rules_to_end after_required required_on after_paths after_root
    after_count rule_file path_numbers rule_numbers numbers_of file_of bytes_of bytes_of_all paths_from rules_from padded rules_of add_all table_of no_rules bit hasb
    with_path members_from members
filing = 0

pub listed_file_lem : Literally listed_file
unfolding filing
listed_file_lem = record { read = refl; stands = refl; file = refl }

pub full_file_lem : Literally full_file
unfolding filing
full_file_lem = record { read = refl; stands = refl; file = refl }

-- so the call reads a literal file as that table
pub literal_read : (l : LiteralFile) → Literally l → (r : Reading) → ReadRules l.bytes r → r ≡ record { answer = Accepted; rules = l.table }
literal_read l h r c = c.answer ∙ h.read
