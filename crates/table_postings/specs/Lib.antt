-- What the contracts of `table_postings` speak of.
pub mod Stored
