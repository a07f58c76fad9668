-- The laws of a round and of the rounds: one for each way that a step or a turn can go.
pub mod Ahead
pub mod Rounding
