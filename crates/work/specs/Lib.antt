-- What the contracts of `work` speak of.
pub mod Bringing
