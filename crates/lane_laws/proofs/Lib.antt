-- Theorems about the lane rules, each file resting on those before it.
pub mod Answers
pub mod Cases
pub mod Reading
pub mod Entry
pub mod Frames
pub mod Sweep
pub mod Exactly
pub mod Yes
pub mod No
pub mod Numbers
pub mod Enough
pub mod Live
pub mod Places
pub mod Slow
pub mod Windows
pub mod Upstream
