-- The laws of one posting in a table's numbers: which row it lies in, and what storing one leaves.
pub mod Cells
