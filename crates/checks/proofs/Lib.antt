-- The laws of the walks, one file for each kind.
pub mod Guards
pub mod Shape
pub mod Failing
pub mod Few
pub mod Numbers
pub mod Guarding
