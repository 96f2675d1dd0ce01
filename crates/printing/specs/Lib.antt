-- The definitions of the whole text that the verdict program prints.
pub mod Printing
