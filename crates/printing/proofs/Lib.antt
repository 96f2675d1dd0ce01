-- The laws of the whole text.
pub mod FirstBytes
pub mod Literal
pub mod Printed
pub mod Unique
pub mod Verdicts
