-- What the contracts of `clashes` speak of.
pub mod Keys
pub mod Pairs
