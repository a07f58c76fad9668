-- The guarantees.
pub mod Acceptance
pub mod Refusals
pub mod Failures
pub mod Numbers
pub mod History
pub mod Upstream
pub mod Exported
