pub mod Example
pub mod Writing
pub mod Reading
pub mod Joining
