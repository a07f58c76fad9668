-- The promises of the bucket calls.
pub mod Promises
