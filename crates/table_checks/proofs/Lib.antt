-- The laws of the table's checks.
pub mod Walks
