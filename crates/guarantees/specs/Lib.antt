-- The words of the guarantees.
pub mod Runs
pub mod Exported
