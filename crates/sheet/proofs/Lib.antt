-- Laws that belong to no one function.
pub mod Accepted
pub mod Bytes
pub mod Slots
