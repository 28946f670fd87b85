pub mod Nearest
pub mod Example
