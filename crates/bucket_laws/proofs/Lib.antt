-- The laws of the bucket rules.
pub mod Answers
pub mod Standing
pub mod Ascending
pub mod Choosing
pub mod Marks
pub mod Range
pub mod Exactly
pub mod Upstream
pub mod Agreement
pub mod Bits
pub mod Stamps
