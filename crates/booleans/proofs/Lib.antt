-- What every law may need to know of a test.
pub mod Tests
