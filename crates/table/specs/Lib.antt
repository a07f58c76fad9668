-- What the contracts of `table` speak of.
pub mod Holding
