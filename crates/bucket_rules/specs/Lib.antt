-- The bucket rules, in the order in which a reader takes them.
pub mod Buckets
pub mod Answers
pub mod Calls
pub mod Stamps
pub mod Trial
pub mod Examples
