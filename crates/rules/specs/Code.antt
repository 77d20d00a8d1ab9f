-- What only code and proofs need.
pub mod Bounds
pub mod Order
pub mod Ranges
pub mod Spans
pub mod Accepted
pub mod Early
pub mod InBuffers
