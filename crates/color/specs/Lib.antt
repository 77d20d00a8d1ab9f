pub mod Colors
pub mod Equal
