-- What stands in a list; and what a lent list holds after numbers were written at its front, or have gone up to make room.
pub mod Among
pub mod Written
pub mod Raised
