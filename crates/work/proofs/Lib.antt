-- The laws of the work: what was reached, shown in the lent table.
pub mod Showing
