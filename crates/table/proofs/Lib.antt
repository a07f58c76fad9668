-- The laws of the table: how it is counted and searched, where a posting stands, how places open and close, what stays held.
pub mod Counting
pub mod Places
pub mod Searching
pub mod Moves
pub mod Keeping
