-- What the contracts of `storage` speak of.
pub mod Leaving
