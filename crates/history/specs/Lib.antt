-- The words of each claim.
pub mod Acceptance
pub mod History
pub mod Upstream
pub mod Guarded
pub mod Failures
pub mod Numbers
pub mod Worked
