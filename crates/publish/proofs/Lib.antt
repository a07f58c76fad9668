-- The laws of the public calls: one outcome for each.
pub mod Outcomes
