-- Two rule files byte for byte, with what they say and the whole table that reading them hands back.
use Rattle.std.specs.Prelude.{ℕ, ◌≡◌, List, [], ◌∷◌}
use Rattle.files.specs.declared.rules.Rules.{Rules}
use Rattle.files.specs.Reading.{Accepted, read_answer}
use Rattle.files.specs.RuleFile.{file_of}
use Rattle.files.specs.Rules.{padded, rules_of}
use Rattle.files.specs.Table.{Path, Rule, RuleSet}

-- the bytes of a file, what it says, and its table
pub record LiteralFile : Type 0 where
  pub bytes : List ℕ
  pub says : RuleSet
  pub table : Rules

-- the bytes are accepted with exactly this table, it stands for what the file says, and the file of that is these bytes
pub record Literally (l : LiteralFile) : Type 0 where
  pub read : read_answer l.bytes ≡ record { answer = Accepted; rules = l.table }
  pub stands : rules_of l.table ≡ l.says
  pub file : file_of l.says ≡ l.bytes

-- the path under this parent with this label
abbrev pub path : (parent label : ℕ) → Path
path parent label = record { parent = parent; label = label }

-- the rule of this kind over these paths
abbrev pub rule : (kind left right : ℕ) → Rule
rule kind left right = record { kind = kind; left = left; right = right }

-- the file that 01 lists
abbrev pub listed_file : LiteralFile
listed_file =
    record {
      bytes = 5 ∷ 10 ∷ 0 ∷ 11 ∷ 1 ∷ 12 ∷ 1 ∷ 13 ∷ 0 ∷ 14 ∷ 1 ∷ 2 ∷ 3 ∷ 1 ∷ 2 ∷ 4 ∷ 1 ∷ 4 ∷ 3 ∷ 2 ∷ 2 ∷ 3 ∷ [];
      says = record {
        root = 10;
        paths = path 0 11 ∷ path 1 12 ∷ path 1 13 ∷ path 0 14 ∷ [];
        required = 2 ∷ [];
        rules = rule 1 2 4 ∷ rule 1 4 3 ∷ rule 2 2 3 ∷ [];
      };
      table = record {
        paths = 5;
        parent = padded 64 (0 ∷ 0 ∷ 1 ∷ 1 ∷ 0 ∷ []);
        label = padded 64 (10 ∷ 11 ∷ 12 ∷ 13 ∷ 14 ∷ []);
        required = 4;
        rules = 3;
        kind = padded 256 (1 ∷ 1 ∷ 2 ∷ []);
        left = padded 256 (2 ∷ 4 ∷ 2 ∷ []);
        right = padded 256 (4 ∷ 3 ∷ 3 ∷ []);
      };
    }

-- a file with every section: paths down to depth 4, labels of two bytes, two required paths, rules of all kinds
abbrev pub full_file : LiteralFile
full_file =
    record {
      bytes =
          6 ∷ 172 ∷ 2 ∷ 0 ∷ 1 ∷ 1 ∷ 255 ∷ 127 ∷ 2 ∷ 128 ∷ 1 ∷ 0 ∷ 2 ∷ 4 ∷ 1 ∷ 2 ∷ 3 ∷ 5
          ∷ 4 ∷ 3 ∷ 3 ∷ 5 ∷ 2 ∷ 5 ∷ 1 ∷ 1 ∷ 2 ∷ 4 ∷ 3 ∷ 4 ∷ 0 ∷ [];
      says = record {
        root = 300;
        paths = path 0 1 ∷ path 1 16383 ∷ path 2 128 ∷ path 0 2 ∷ path 4 1 ∷ [];
        required = 3 ∷ 5 ∷ [];
        rules = rule 3 3 5 ∷ rule 2 5 1 ∷ rule 1 2 4 ∷ rule 3 4 0 ∷ [];
      };
      table = record {
        paths = 6;
        parent = padded 64 (0 ∷ 0 ∷ 1 ∷ 2 ∷ 0 ∷ 4 ∷ []);
        label = padded 64 (300 ∷ 1 ∷ 16383 ∷ 128 ∷ 2 ∷ 1 ∷ []);
        required = 40;
        rules = 4;
        kind = padded 256 (3 ∷ 2 ∷ 1 ∷ 3 ∷ []);
        left = padded 256 (3 ∷ 5 ∷ 2 ∷ 4 ∷ []);
        right = padded 256 (5 ∷ 1 ∷ 4 ∷ 0 ∷ []);
      };
    }
