-- Laws that belong to no one function.
pub mod Leads
pub mod Entries
pub mod Passes
pub mod Covered
pub mod Pictures
pub mod Stretches
pub mod Accepted
