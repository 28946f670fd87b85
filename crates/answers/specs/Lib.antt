pub mod Refusals
pub mod Checks
pub mod Example
