-- The laws of the walk over a strip.
pub mod Walk
