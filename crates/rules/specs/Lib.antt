-- The rules, in the order in which a reader takes them.
pub mod Limits
pub mod Postings
pub mod Table
pub mod Orders
pub mod Storage
pub mod Answers
pub mod Publication
pub mod Checks
pub mod Calls
pub mod Trial
pub mod Letters
pub mod Examples
