-- What the answers mean: what holds in every document of the table that obeys the rules, and documents that show the contrary.
use Rattle.std.specs.Prelude.{ℕ, List}
use Rattle.files.specs.Table.{Rule}
use Rattle.documents.specs.Tree.{Forest, Document}
use Rattle.documents.specs.Obey.{Implication, Absence, Obeys, HoldsAll}

-- implication p, q holds in every document that obeys the rules
pub record Implied (parent : ℕ → ℕ) (rules : List Rule) (count p q : ℕ) : Type 0 where
  pub every : (d : Forest) → Document parent count d → Obeys parent rules d → Implication parent p q d

-- absence p, q holds in every document that obeys the rules
pub record Excluded (parent : ℕ → ℕ) (rules : List Rule) (count p q : ℕ) : Type 0 where
  pub every : (d : Forest) → Document parent count d → Obeys parent rules d → Absence parent p q d

-- co-occurrence p, q holds in every document that obeys the rules
pub record Together (parent : ℕ → ℕ) (rules : List Rule) (count p q : ℕ) : Type 0 where
  pub along : Implied parent rules count p q
  pub against : Implied parent rules count q p

-- d is a document of the table, obeys the rules and breaks implication p, q
pub record BreaksImplication (parent : ℕ → ℕ) (rules : List Rule) (count p q : ℕ) (d : Forest) : Type 0 where
  pub is_document : Document parent count d
  pub obeys : Obeys parent rules d
  pub breaks : Implication parent p q d → ⊥

-- d is a document of the table, obeys the rules and breaks absence p, q
pub record BreaksAbsence (parent : ℕ → ℕ) (rules : List Rule) (count p q : ℕ) (d : Forest) : Type 0 where
  pub is_document : Document parent count d
  pub obeys : Obeys parent rules d
  pub breaks : Absence parent p q d → ⊥

-- d is a document of the table, obeys the rules and holds every required path
pub record Witnesses (parent : ℕ → ℕ) (rules : List Rule) (count : ℕ) (required : List ℕ) (d : Forest) : Type 0 where
  pub is_document : Document parent count d
  pub obeys : Obeys parent rules d
  pub holds : HoldsAll required d

-- the rules are consistent with the required paths: some document witnesses it
pub record Consistent (parent : ℕ → ℕ) (rules : List Rule) (count : ℕ) (required : List ℕ) : Type 0 where
  pub document : Forest
  pub witnesses : Witnesses parent rules count required document
