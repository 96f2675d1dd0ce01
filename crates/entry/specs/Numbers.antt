-- The three numbers of an answer, by cases: which answer it is, and its two values. 0 is a refusal.
use Rattle.std.specs.Prelude.{ℕ, List, [], ◌∷◌}
use Rattle.files.specs.Writing.{Written}
use Rattle.documents.specs.Answers.{Checked}
use Rattle.reasoning.specs.Verdict.{Verdict}
use Rattle.reasoning.specs.Reply.{Reply}

-- three numbers
abbrev pub three : (which first second : ℕ) → List ℕ
three which first second = which ∷ first ∷ second ∷ []

-- a refusal: 0, its number, its offset
abbrev pub refusal_numbers : (number offset : ℕ) → List ℕ
refusal_numbers number offset = three 0 number offset

-- writing: 1 and the length
abbrev pub written_numbers : Written → List ℕ
written_numbers (Written.Length n) = three 1 n 0
written_numbers (Written.Refused k at) = refusal_numbers k at

-- checking: 1 obeys; 2 the least broken rule and the least part that breaks it; 3 the least required path missing
abbrev pub checked_numbers : Checked → List ℕ
checked_numbers Checked.Obeys = three 1 0 0
checked_numbers (Checked.Broken rule part) = three 2 rule part
checked_numbers (Checked.Missing path) = three 3 path 0
checked_numbers (Checked.Refused k at) = refusal_numbers k at

-- consistency: 1 consistent and the document's length; 2 inconsistent and the evidence's length
abbrev pub verdict_numbers : Verdict → List ℕ
verdict_numbers (Verdict.Consistent n) = three 1 n 0
verdict_numbers (Verdict.Inconsistent n) = three 2 n 0
verdict_numbers (Verdict.Refused k at) = refusal_numbers k at

-- a question: 1 yes and the evidence's length; 2 no and the counter-document's length
abbrev pub reply_numbers : Reply → List ℕ
reply_numbers (Reply.Yes n) = three 1 n 0
reply_numbers (Reply.No n) = three 2 n 0
reply_numbers (Reply.Refused k at) = refusal_numbers k at
