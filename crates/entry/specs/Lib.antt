-- What the contracts of `entry` speak of.
pub mod Promises
