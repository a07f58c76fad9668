-- That each entry has one outcome.
pub mod Outcomes
