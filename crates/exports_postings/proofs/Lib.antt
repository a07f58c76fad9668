-- One outcome for each exported call.
pub mod Outcomes
