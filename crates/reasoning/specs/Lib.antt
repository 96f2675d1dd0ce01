-- The definitions of the two calls, consistency and questions, and of what they lend on.
pub mod Calls
pub mod Examples
pub mod Lent
pub mod Reply
pub mod Verdict
