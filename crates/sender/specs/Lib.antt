pub mod Prints
pub mod Steps
pub mod Example
