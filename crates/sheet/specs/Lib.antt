-- What the contracts of the library cite.
pub mod Code
