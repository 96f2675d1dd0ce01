-- The conditions under which input is refused, and their numbers.
use Rattle.std.specs.Prelude.{ℕ, Result, Ok, Err}
use Rattle.files.specs.declared.refusal.Condition.{Condition}

-- the number that a refusal by a condition carries
abbrev pub condition_number : Condition → ℕ
condition_number Condition.Cut = 1
condition_number Condition.TooLong = 2
condition_number Condition.PathCount = 3
condition_number Condition.Parent = 4
condition_number Condition.Depth = 5
condition_number Condition.Repeated = 6
condition_number Condition.Required = 7
condition_number Condition.RuleCount = 8
condition_number Condition.RuleKind = 9
condition_number Condition.RulePath = 10
condition_number Condition.LeftOver = 11
condition_number Condition.Table = 12
condition_number Condition.Question = 13
condition_number Condition.DocumentSize = 14
condition_number Condition.PartCount = 15
condition_number Condition.PartPath = 16
condition_number Condition.Unnamed = 17
condition_number Condition.NamerPath = 18
condition_number Condition.ChildNumber = 19
condition_number Condition.Room = 20

-- what a test says of a number: 0 where it passes, or the number of its condition
abbrev pub test_number : Result Unit Condition → ℕ
test_number (Ok passed) = 0
test_number (Err c) = condition_number c
