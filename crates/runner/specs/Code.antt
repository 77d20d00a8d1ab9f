-- What only code and proofs need.
pub mod Slots
pub mod Rep
pub mod Pixels
pub mod Labelling
pub mod Lists
pub mod Ops
pub mod Given
pub mod Queue
pub mod Neighbours
pub mod Visits
pub mod Interior
pub mod Stage1
pub mod Spans
pub mod Stage2
pub mod Outputs
pub mod Calls
