-- The laws of what stands in a list, of writing, and of making room.
pub mod Writing
pub mod Raising
pub mod Among
