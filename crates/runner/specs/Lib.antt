-- What the contracts of the library cite.
pub mod Types
pub mod Code
