-- The lane rules, in the order in which a reader takes them.
pub mod Steps
pub mod Passes
pub mod Rounds
pub mod Answers
pub mod Calls
pub mod Trial
pub mod Examples
