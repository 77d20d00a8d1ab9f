-- What only code and proofs need.
pub mod Stored
pub mod Pairs
pub mod Numbers
