-- What pins the definitions: computed examples. Images and what a run makes of them,
pub mod Worked
pub mod Labelled
pub mod Ordered
pub mod Called
-- the refusals,
pub mod Edges
pub mod Faults
-- and small examples: what the rules are written with, colours, states and buffers, demand 3.
pub mod Basics
pub mod Small
pub mod Viewed
pub mod Ledgers
