pub mod Run
pub mod Way
pub mod Sending
pub mod File
pub mod Example
