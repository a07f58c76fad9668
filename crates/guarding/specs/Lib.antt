-- What the contracts of `guarding` speak of.
pub mod Asking
pub mod InPlace
pub mod Examples
