-- The laws of the steps and of the loops: one for each way that a step or a turn can go.
pub mod Standing
pub mod Caching
pub mod Refreshing
