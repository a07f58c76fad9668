-- The laws that the walks cite: the keys that an order asks for, and the head set in place.
pub mod Asking
pub mod InPlace
