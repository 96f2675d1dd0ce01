-- The laws of digits, lines and lengths of the listing.
pub mod Blocks
pub mod Laying
pub mod Lengths
pub mod Listings
pub mod Pieces
pub mod Whole
