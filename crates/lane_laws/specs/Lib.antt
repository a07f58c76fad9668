-- The words of each claim about the lane rules.
pub mod Clauses
pub mod Ends
pub mod Places
pub mod Windows
pub mod Slow
