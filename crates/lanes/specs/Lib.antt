-- The promises of the lane calls.
pub mod Promises
