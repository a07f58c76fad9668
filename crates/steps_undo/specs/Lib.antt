-- What the contracts of `steps_undo` speak of.
pub mod Leaving
