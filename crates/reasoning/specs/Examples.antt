-- E1 to E12 of 01 from the bytes of their files, and an example more for each rule of choice that these do not settle: what the
-- calls answer, with all the bytes that they write.
use Rattle.std.specs.Prelude.{ℕ, List, [], ◌∷◌, ◌++◌, replicate, take}
use Rattle.files.specs.Reading.{Answer, read_answer}
use Rattle.files.specs.declared.rules.Rules.{Rules}
use Rattle.files.specs.LiteralFiles.{LiteralFile, listed_file, full_file}
use Rattle.reasoning.specs.Verdict.{Verdict}
use Rattle.reasoning.specs.Reply.{Reply}
use Rattle.reasoning.specs.Calls.{consistency_answer, ask_answer}

-- what is asked of the bytes of a rule file: whether they are one, whether its rules are consistent, or a question
pub data Question : Type 0 where
  read : Question
  consistency : Question
  ask : (kind p q : ℕ) → Question

-- the answer: the table of a file, the bytes of a document or of evidence, or a refusal, which for a file has its table too
pub data Told : Type 0 where
  accepted : Rules → Told
  refused_file : (k at : ℕ) → Rules → Told
  consistent_by : List ℕ → Told
  inconsistent_by : List ℕ → Told
  yes_by : List ℕ → Told
  no_by : List ℕ → Told
  refused_at : (k at : ℕ) → Told

-- a verdict, with the bytes that it filled of the buffer
unfoldable pub verdict_told : Verdict → List ℕ → Told
verdict_told (Verdict.Consistent n) buffer = consistent_by (take n buffer)
verdict_told (Verdict.Inconsistent n) buffer = inconsistent_by (take n buffer)
verdict_told (Verdict.Refused k at) buffer = refused_at k at

-- a reply, with the bytes that it filled of the buffer
unfoldable pub reply_told : Reply → List ℕ → Told
reply_told (Reply.Yes n) buffer = yes_by (take n buffer)
reply_told (Reply.No n) buffer = no_by (take n buffer)
reply_told (Reply.Refused k at) buffer = refused_at k at

-- a lent buffer of 32 bytes
abbrev pub lent : List ℕ
lent = replicate 32 170

-- what is answered of a table that was read
unfoldable pub table_told : Rules → Question → Told
table_told t read = accepted t
table_told t consistency = let a = consistency_answer t lent in verdict_told a.answer a.buffer
table_told t (ask kind p q) = let a = ask_answer t kind p q lent in reply_told a.answer a.buffer

-- what is answered of a file, by what reading it answers
unfoldable pub read_told : Answer → Rules → Question → Told
read_told Answer.Accepted t question = table_told t question
read_told (Answer.Refused k at) t question = refused_file k at t

-- an example: the bytes of a rule file, what is asked of it, and the answer
pub record Example : Type 0 where
  pub file : List ℕ
  pub question : Question
  pub answer : Told

-- what the calls answer to it
unfoldable pub answer_to : Example → Told
answer_to e = let r = read_answer e.file in read_told r.answer r.rules e.question

-- the bytes of a file over table T: the required paths with their count, the rules with theirs
abbrev pub over_t : (required rules : List ℕ) → List ℕ
over_t required rules = 5 ∷ 10 ∷ 0 ∷ 11 ∷ 1 ∷ 12 ∷ 1 ∷ 13 ∷ 0 ∷ 14 ∷ (required ++ rules)

-- no required path
abbrev pub nothing : List ℕ
nothing = 0 ∷ []

-- the rules of E1: 2 > 4, 4 > 3
abbrev pub rules_e1 : List ℕ
rules_e1 = 2 ∷ 1 ∷ 2 ∷ 4 ∷ 1 ∷ 4 ∷ 3 ∷ []

-- the rules of E4: 2 > 3, 2 x 3
abbrev pub rules_e4 : List ℕ
rules_e4 = 2 ∷ 1 ∷ 2 ∷ 3 ∷ 2 ∷ 2 ∷ 3 ∷ []

-- the document of 01's listing
abbrev pub listing : List ℕ
listing = 6 ∷ 0 ∷ 3 ∷ 1 ∷ 2 ∷ 3 ∷ 1 ∷ 1 ∷ 4 ∷ 1 ∷ 1 ∷ 5 ∷ 4 ∷ 0 ∷ 2 ∷ 0 ∷ 3 ∷ 0 ∷ []

-- rules 2 > 4, 4 > 3; ask 2 > 3: no, with the document of the listing
abbrev pub e1 : Example
e1 = record { file = over_t nothing rules_e1; question = ask 1 2 3; answer = no_by listing }

-- E1's rules and 2 x 3, required 2 (the file that 01 lists): consistent
abbrev pub e2 : Example
e2 = record { file = listed_file.bytes; question = consistency; answer = consistent_by listing }

-- E1's rules; ask 2 > 0: yes, by two climbs
abbrev pub e3 : Example
e3 = record { file = over_t nothing rules_e1; question = ask 1 2 0; answer = yes_by (1 ∷ 2 ∷ 0 ∷ 0 ∷ []) }

-- rules 2 > 3, 2 x 3; ask 2 > 4: yes, 2 is dead
abbrev pub e4 : Example
e4 = record { file = over_t nothing rules_e4; question = ask 1 2 4; answer = yes_by (2 ∷ 2 ∷ 2 ∷ 1 ∷ 0 ∷ 0 ∷ 1 ∷ 1 ∷ []) }

-- rule 2 x 4, required 2, 4: inconsistent
abbrev pub e5 : Example
e5 =
    record {
      file = over_t (2 ∷ 2 ∷ 4 ∷ []) (1 ∷ 2 ∷ 2 ∷ 4 ∷ []);
      question = consistency;
      answer = inconsistent_by (3 ∷ 2 ∷ 4 ∷ 0 ∷ 0 ∷ 0 ∷ 0 ∷ []);
    }

-- rule 2 x 4, required 2: consistent
abbrev pub e6 : Example
e6 =
    record {
      file = over_t (1 ∷ 2 ∷ []) (1 ∷ 2 ∷ 2 ∷ 4 ∷ []);
      question = consistency;
      answer = consistent_by (3 ∷ 0 ∷ 1 ∷ 1 ∷ 1 ∷ 1 ∷ 2 ∷ 2 ∷ 0 ∷ []);
    }

-- rules 2 x 4, 3 > 2; ask 3 x 4: yes, the pair
abbrev pub e7 : Example
e7 =
    record {
      file = over_t nothing (2 ∷ 2 ∷ 2 ∷ 4 ∷ 1 ∷ 3 ∷ 2 ∷ []);
      question = ask 2 3 4;
      answer = yes_by (3 ∷ 3 ∷ 4 ∷ 0 ∷ 0 ∷ 1 ∷ 3 ∷ 0 ∷ []);
    }

-- rule 2 x 3; ask 2 x 4: no
abbrev pub e8 : Example
e8 =
    record {
      file = over_t nothing (1 ∷ 2 ∷ 2 ∷ 3 ∷ []);
      question = ask 2 2 4;
      answer = no_by (4 ∷ 0 ∷ 2 ∷ 1 ∷ 2 ∷ 1 ∷ 1 ∷ 3 ∷ 4 ∷ 0 ∷ 2 ∷ 0 ∷ []);
    }

-- one path, rule 0 x 0: inconsistent
abbrev pub e9 : Example
e9 =
    record {
      file = 1 ∷ 10 ∷ 0 ∷ 1 ∷ 2 ∷ 0 ∷ 0 ∷ [];
      question = consistency;
      answer = inconsistent_by (3 ∷ 0 ∷ 0 ∷ 0 ∷ 0 ∷ 0 ∷ 0 ∷ []);
    }

-- one path, no rule: the document of one part
abbrev pub e10 : Example
e10 = record { file = 1 ∷ 10 ∷ 0 ∷ 0 ∷ []; question = consistency; answer = consistent_by (1 ∷ 0 ∷ 0 ∷ []) }

-- rule 1 > 2; ask 3 > 2: yes, by a climb and the rule
abbrev pub e11 : Example
e11 =
    record {
      file = over_t nothing (1 ∷ 1 ∷ 1 ∷ 2 ∷ []);
      question = ask 1 3 2;
      answer = yes_by (1 ∷ 2 ∷ 0 ∷ 1 ∷ []);
    }

-- the table of a refused file: one path with label 0, nothing required, no rule
abbrev pub one_path : Rules
one_path =
    record {
      paths = 1;
      parent = replicate 64 0;
      label = replicate 64 0;
      required = 0;
      rules = 0;
      kind = replicate 256 0;
      left = replicate 256 0;
      right = replicate 256 0;
    }

-- a file that is refused at its first byte
abbrev pub refused_one : (file : List ℕ) (k : ℕ) → Example
refused_one file k = record { file = file; question = read; answer = refused_file k 0 one_path }

-- files: empty, and 128 alone: 1 at 0; 128 0: 2; 0: 3
abbrev pub e12 : List Example
e12 = refused_one [] 1 ∷ refused_one (128 ∷ []) 1 ∷ refused_one (128 ∷ 0 ∷ []) 2 ∷ refused_one (0 ∷ []) 3 ∷ []

-- a file that is accepted with this table
abbrev pub accepted_one : LiteralFile → Example
accepted_one l = record { file = l.bytes; question = read; answer = accepted l.table }

-- highest number first: rule 4 > 2; ask 4 > 3: no, with one part on path 1 (lowest first gives two)
abbrev pub highest_first : Example
highest_first =
    record {
      file = over_t nothing (1 ∷ 1 ∷ 4 ∷ 2 ∷ []);
      question = ask 1 4 3;
      answer = no_by (4 ∷ 0 ∷ 2 ∷ 1 ∷ 2 ∷ 1 ∷ 1 ∷ 3 ∷ 4 ∷ 0 ∷ 2 ∷ 0 ∷ []);
    }

-- the first failing direction: no rule; ask 2 <> 3, where both fail: no, by goal 2
abbrev pub first_direction : Example
first_direction =
    record {
      file = over_t nothing (0 ∷ []);
      question = ask 3 2 3;
      answer = no_by (3 ∷ 0 ∷ 1 ∷ 1 ∷ 1 ∷ 1 ∷ 2 ∷ 2 ∷ 0 ∷ []);
    }

-- and the second where the first follows: rule 2 > 3; ask 2 <> 3: no, by goal 3
abbrev pub second_direction : Example
second_direction =
    record {
      file = over_t nothing (1 ∷ 1 ∷ 2 ∷ 3 ∷ []);
      question = ask 3 2 3;
      answer = no_by (3 ∷ 0 ∷ 1 ∷ 1 ∷ 1 ∷ 1 ∷ 2 ∷ 3 ∷ 0 ∷ []);
    }

-- direct before dead: E4's rules; ask 2 > 3: yes, direct
abbrev pub direct_first : Example
direct_first = record { file = over_t nothing rules_e4; question = ask 1 2 3; answer = yes_by (1 ∷ 1 ∷ 1 ∷ []) }

-- dead p before dead q: rules 2 x 2, 3 x 3; ask 3 x 2: yes, 3 is dead
abbrev pub dead_first : Example
dead_first =
    record {
      file = over_t nothing (2 ∷ 2 ∷ 2 ∷ 2 ∷ 2 ∷ 3 ∷ 3 ∷ []);
      question = ask 2 3 2;
      answer = yes_by (2 ∷ 3 ∷ 3 ∷ 1 ∷ 0 ∷ 0 ∷ 0 ∷ []);
    }

-- the least rule, and its side: rules 4 x 2, 2 x 4; ask 2 x 4: yes, the pair by rule 0, crossed
abbrev pub crossed_side : Example
crossed_side =
    record {
      file = over_t nothing (2 ∷ 2 ∷ 4 ∷ 2 ∷ 2 ∷ 2 ∷ 4 ∷ []);
      question = ask 2 2 4;
      answer = yes_by (3 ∷ 2 ∷ 4 ∷ 0 ∷ 1 ∷ 0 ∷ 0 ∷ []);
    }

-- the root pair before a dead path, by the lowest that reach: rules 3 x 3, 3 > 2, 2 x 4, required 2, 3, 4
abbrev pub pair_first : Example
pair_first =
    record {
      file = over_t (3 ∷ 2 ∷ 3 ∷ 4 ∷ []) (3 ∷ 2 ∷ 3 ∷ 3 ∷ 1 ∷ 3 ∷ 2 ∷ 2 ∷ 2 ∷ 4 ∷ []);
      question = consistency;
      answer = inconsistent_by (3 ∷ 2 ∷ 4 ∷ 2 ∷ 0 ∷ 0 ∷ 0 ∷ []);
    }

-- all of them
abbrev pub examples : List Example
examples =
    e1 ∷ e2 ∷ e3 ∷ e4 ∷ e5 ∷ e6 ∷ e7 ∷ e8 ∷ e9 ∷ e10 ∷ e11
    ∷ (e12
    ++ (accepted_one listed_file
    ∷ accepted_one full_file
    ∷ highest_first
    ∷ first_direction
    ∷ second_direction
    ∷ direct_first
    ∷ dead_first
    ∷ crossed_side
    ∷ pair_first
    ∷ []))
