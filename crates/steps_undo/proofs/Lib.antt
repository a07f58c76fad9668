-- The laws of the undo: one change, and the turns of a run.
pub mod Undos
