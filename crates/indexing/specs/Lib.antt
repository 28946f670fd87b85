pub mod Calls
pub mod Example
