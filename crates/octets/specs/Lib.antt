pub mod Octets
pub mod Example
