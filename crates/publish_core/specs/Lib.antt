-- What the contract of the core speaks of.
pub mod Core
