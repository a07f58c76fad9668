-- What a strip is.
pub mod Strips
pub mod Examples
