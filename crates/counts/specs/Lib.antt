pub mod Counts
pub mod Width
pub mod Distance
pub mod Fields
pub mod Example
