-- The laws of the calls over bytes.
pub mod Accepted
pub mod Calling
pub mod Told
pub mod Unique
