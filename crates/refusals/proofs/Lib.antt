-- The laws of checks in groups.
pub mod Firsts
