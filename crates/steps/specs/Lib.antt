-- What the contracts of `steps` speak of.
pub mod Leaving
