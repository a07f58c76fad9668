-- The promises of the exported calls.
pub mod Promises
