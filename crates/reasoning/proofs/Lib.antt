-- The laws of the two calls: what is lent on, what is put, and what the answers mean.
pub mod Asking
pub mod CallLaws
pub mod Calling
pub mod Checked
pub mod ConsistencyJoins
pub mod Examples
pub mod Meaning
pub mod Placed
pub mod QuestionJoins
pub mod ReadBack
pub mod TableArrays
pub mod ValidFits
