-- Documents byte for byte, with what checking them against the rules of a literal file answers.
use Rattle.std.specs.Prelude.{ℕ, List, [], ◌∷◌}
use Rattle.files.specs.LiteralFiles.{LiteralFile, listed_file, full_file}
use Rattle.documents.specs.Answers.{Checked}

-- a document, the file whose rules it is checked against, and the answer
pub record LiteralDocument : Type 0 where
  pub file : LiteralFile
  pub document : List ℕ
  pub answer : Checked

abbrev pub literal_documents : List LiteralDocument
literal_documents =
    -- 01's listing
    record {
      file = listed_file;
      document = 6 ∷ 0 ∷ 3 ∷ 1 ∷ 2 ∷ 3 ∷ 1 ∷ 1 ∷ 4 ∷ 1 ∷ 1 ∷ 5 ∷ 4 ∷ 0 ∷ 2 ∷ 0 ∷ 3 ∷ 0 ∷ [];
      answer = Checked.Obeys;
    }
    -- the root alone: no rule is broken, path 2 is missing
    ∷ record { file = listed_file; document = 1 ∷ 0 ∷ 0 ∷ []; answer = Checked.Missing 2 }
    -- rules 0 and 2 are broken, at parts 0 and 1: the least rule
    ∷ record { file = listed_file; document = 4 ∷ 0 ∷ 1 ∷ 1 ∷ 1 ∷ 2 ∷ 2 ∷ 3 ∷ 2 ∷ 0 ∷ 3 ∷ 0 ∷ []; answer = Checked.Broken 0 0 }
    -- parts 1, 2 and 3 are on the context of rule 2, and the last two break it: the least of them. Parts 5 and 6 are shared
    ∷ record {
      file = listed_file;
      document = 7 ∷ 0 ∷ 4 ∷ 1 ∷ 2 ∷ 3 ∷ 4 ∷ 1 ∷ 1 ∷ 5 ∷ 1 ∷ 2 ∷ 5 ∷ 6 ∷ 1 ∷ 2 ∷ 5 ∷ 6 ∷ 4 ∷ 0 ∷ 3 ∷ 0 ∷ 2 ∷ 0 ∷ [];
      answer = Checked.Broken 2 2;
    }
    -- paths 3 and 5 are missing: the least
    ∷ record { file = full_file; document = 2 ∷ 0 ∷ 1 ∷ 1 ∷ 4 ∷ 0 ∷ []; answer = Checked.Missing 3 }
    -- a co-occurrence is broken by its right path alone
    ∷ record { file = full_file; document = 1 ∷ 0 ∷ 0 ∷ []; answer = Checked.Broken 3 0 }
    ∷ []
