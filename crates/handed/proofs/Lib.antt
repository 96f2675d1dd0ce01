-- The laws of goals as words, of emitting a document, and that what is emitted is the document handed back.
pub mod Emitting
pub mod EmittingParts
pub mod Gathering
pub mod GoalWords
pub mod Ordering
pub mod Places
pub mod SheetGoals
pub mod SheetPlan
pub mod WrittenDocument
pub mod SetSums
