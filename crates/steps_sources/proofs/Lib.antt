-- The laws of what follows the last insertion: the turns of each loop, and how many bytes the removals read.
pub mod Reading
pub mod Removals
pub mod Writing
