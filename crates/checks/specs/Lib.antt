-- What the contracts of `checks` speak of.
pub mod Keys
pub mod Guarding
