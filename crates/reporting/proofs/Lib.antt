pub mod Example
pub mod Steps
