-- What the checks find.
pub mod Finding
