-- The definitions of the calls over bytes: the numbers that an answer is told in, and what each call promises.
pub mod Calls
pub mod Numbers
