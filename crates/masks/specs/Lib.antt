-- What a mask is.
pub mod Masks
pub mod Examples
