-- The definitions that the document writer works with: goals from the words of a sheet, the plan of a document, and the numbers emitted.
pub mod Emit
pub mod Emitter
pub mod Goals
pub mod Order
pub mod Plan
pub mod Writer
