-- docs/RULES.md as definitions, in three parts; "rule 5.3" in a comment is its rule of that number. What must be
-- believed, in the order in which a newcomer reads it: the rules,
pub mod Base
pub mod Color
pub mod Grid
pub mod State
pub mod Stage1
pub mod Stage2
pub mod Run
pub mod Picture
pub mod Layout
-- the public calls,
pub mod Paint
pub mod Stored
pub mod Refusals
pub mod Calls
-- and demand 3.
pub mod Ledger
pub mod Claim
pub mod Moments
pub mod Demand3
-- What pins these definitions, computed.
pub mod Examples
-- What only code and proofs need.
pub mod Code
