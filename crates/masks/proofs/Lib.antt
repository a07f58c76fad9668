-- The laws of masks lane by lane, for every crate; those of the machine's operations are for this one alone.
pub mod Lanes
mod Machine
