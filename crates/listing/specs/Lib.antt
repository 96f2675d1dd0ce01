-- The definitions of the text that the verdict program prints.
pub mod Block
pub mod Lay
pub mod Text
