-- The laws of prepare: the turns of its loop, its end where a change could not be inserted, and how many bytes it reads.
pub mod Insertions
pub mod Reading
