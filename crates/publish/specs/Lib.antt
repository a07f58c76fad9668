-- What the promises of the public calls speak of.
pub mod Promises
