-- The order of a document's parts, and what it means that a list of entries is the document that begins with a part.
use Rattle.std.specs.Prelude.{ℕ, suc, ◌<◌, ◌≡◌, ◌↔◌}
use mathlib.Core.List.{List, [], ◌∷◌, Memᴰ}
use Rattle.files.specs.Sets.{Ascending}
use Rattle.documents.specs.Paths.{depth_of}
use Rattle.documents.specs.Parts.{Named}
use Rattle.documents.specs.PartList.{Entry}
use Rattle.files.specs.Table.{Rule}
use Rattle.theory.specs.Parts.{Part}
use Rattle.theory.specs.Children.{ChildrenOf}

-- member number n of a list is a; members are numbered from 0
pub data NumberedIn {A : Type 0} : List A → ℕ → A → Type 0 where
  first : {a : A} {rest : List A} → NumberedIn (a ∷ rest) 0 a
  later : {a before : A} {rest : List A} {n : ℕ} → NumberedIn rest n a → NumberedIn (before ∷ rest) (suc n) a

-- a list is sorted strictly: each member stands before all that follow it
pub data Sorted {A : Type 0} (Before : A → A → Type 0) : List A → Type 0 where
  none : Sorted Before []
  next : {a : A} {rest : List A} → ((b : A) → Memᴰ b rest → Before a b) → Sorted Before rest → Sorted Before (a ∷ rest)

-- two lists match, member by member
pub data Matches {A B : Type 0} (Fit : A → B → Type 0) : List A → List B → Type 0 where
  none : Matches Fit [] []
  next : {a : A} {b : B} {more : List A} {rest : List B} → Fit a b → Matches Fit more rest → Matches Fit (a ∷ more) (b ∷ rest)

-- parts are equal if they have the same path and the same set of goals
pub record SamePart (a b : Part) : Type 0 where
  pub path : a.path ≡ b.path
  pub goals : (g : ℕ) → Memᴰ g a.goals ↔ Memᴰ g b.goals

-- more goals than one
pub record Several (goals : List ℕ) : Type 0 where
  pub one : ℕ
  pub other : ℕ
  pub one_listed : Memᴰ one goals
  pub other_listed : Memᴰ other goals
  pub differ : one ≡ other → ⊥

-- g and no other is a goal
pub record Only (goals : List ℕ) (g : ℕ) : Type 0 where
  pub listed : Memᴰ g goals
  pub alone : (h : ℕ) → Memᴰ h goals → h ≡ g

-- part a is written before part b: by depth, then path number, then two-goal before one-goal, then goal number
pub data Precedes (parent : ℕ → ℕ) (a b : Part) : Type 0 where
  by_depth : depth_of parent a.path < depth_of parent b.path → Precedes parent a b
  by_path : depth_of parent a.path ≡ depth_of parent b.path → a.path < b.path → Precedes parent a b
  by_several : a.path ≡ b.path → Several a.goals → (h : ℕ) → Only b.goals h → Precedes parent a b
  by_goal : a.path ≡ b.path → (g h : ℕ) → Only a.goals g → Only b.goals h → g < h → Precedes parent a b

-- a part of the list is equal to part j and has number n
pub record Standing (parts : List Part) (n : ℕ) (j : Part) : Type 0 where
  pub part : Part
  pub number : NumberedIn parts n part
  pub same : SamePart part j

-- number n of the list is that of a child of part a
pub record KidAt (kids : Part → List Part) (parts : List Part) (a : Part) (n : ℕ) : Type 0 where
  pub kid : Part
  pub is_kid : Memᴰ kid (kids a)
  pub standing : Standing parts n kid

-- a part's child has its number among the numbers named
pub record NumberOf (parts : List Part) (numbers : List ℕ) (j : Part) : Type 0 where
  pub number : ℕ
  pub listed : Memᴰ number numbers
  pub standing : Standing parts number j

-- an entry lays down part a: its path, and the numbers of its children, ascending strictly
pub record LaysDown (kids : Part → List Part) (parts : List Part) (a : Part) (e : Entry) : Type 0 where
  pub path : e.path ≡ a.path
  pub ascending : Ascending 0 e.kids
  pub only : (n : ℕ) → Memᴰ n e.kids → KidAt kids parts a n
  pub all : (j : Part) → Memᴰ j (kids a) → NumberOf parts e.kids j

-- parts with these children, written down: part 0 is the one given, every part that it names is there once, equal parts being
-- one, in the order of parts, each with its path and its children's numbers
pub record WritesParts (parent : ℕ → ℕ) (kids : Part → List Part) (start : Part) (es : List Entry) : Type 0 where
  pub parts : List Part
  pub begins : NumberedIn parts 0 start
  pub named : (a : Part) → Memᴰ a parts → Named kids (start ∷ []) a
  pub every : (a : Part) → Named kids (start ∷ []) a → (n : ℕ) × Standing parts n a
  pub ordered : Sorted (Precedes parent) parts
  pub entries : Matches (LaysDown kids parts) parts es

-- the document that begins with a part, written down: every part that it names has the children that 01 gives it
pub record WritesDocument (parent : ℕ → ℕ) (rules : List Rule) (start : Part) (es : List Entry) : Type 0 where
  pub kids : Part → List Part
  pub children : (a : Part) → Named kids (start ∷ []) a → ChildrenOf parent rules a (kids a)
  pub written : WritesParts parent kids start es
