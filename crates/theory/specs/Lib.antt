-- The definitions of walks, reachable sets, decisions, evidence and the documents handed back.
pub mod Children
pub mod Counter
pub mod Decide
pub mod Evidence
pub mod Examples
pub mod Follows
pub mod Graph
pub mod Handed
pub mod Least
pub mod Order
pub mod Parts
pub mod Reachable
pub mod Required
pub mod Search
pub mod Walk
pub mod Written
