-- What a step by its byte leaves, and steps that follow each other.
pub mod Bytes
pub mod Following
