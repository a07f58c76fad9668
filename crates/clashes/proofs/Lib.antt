-- The laws of the walks: what is found first, and the pairs.
pub mod Named
pub mod Pairs
