-- What the contracts of `refusals` speak of.
pub mod Admitting
