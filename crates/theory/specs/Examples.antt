-- The rules of 01's first examples, over its table T.
use Rattle.std.specs.Prelude.{ℕ, List, [], ◌∷◌}
use Rattle.files.specs.Table.{Path, Rule}

-- implication of two paths
abbrev pub implies : (p q : ℕ) → Rule
implies p q = record { kind = 1; left = p; right = q }

-- absence of two paths
abbrev pub excludes : (p q : ℕ) → Rule
excludes p q = record { kind = 2; left = p; right = q }

-- the paths of table T: 1 blade under 0, 2 motor and 3 brake under 1, 4 notice under 0
abbrev pub paths_t : List Path
paths_t =
    record { parent = 0; label = 11 }
    ∷ record { parent = 1; label = 12 }
    ∷ record { parent = 1; label = 13 }
    ∷ record { parent = 0; label = 14 }
    ∷ []

-- the rules of E1
abbrev pub rules_e1 : List Rule
rules_e1 = implies 2 4 ∷ implies 4 3 ∷ []

-- the rules of E2
abbrev pub rules_e2 : List Rule
rules_e2 = implies 2 4 ∷ implies 4 3 ∷ excludes 2 3 ∷ []
