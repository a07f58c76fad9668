-- What the theorems say of the bucket rules, and what the engines' inner functions promise of a lent list.
pub mod Clauses
pub mod Writing
