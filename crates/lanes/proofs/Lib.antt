-- The work of the calls, one outcome for each call, and what is guaranteed of their results.
pub mod Working
pub mod Outcomes
pub mod Guarantees
