-- What only code and proofs need.
pub mod Leads
pub mod Uniform
pub mod Covered
pub mod Quick
pub mod Stretch
pub mod Checked
