pub mod Record
pub mod Naming
pub mod Example
