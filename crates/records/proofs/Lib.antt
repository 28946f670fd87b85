pub mod Bytes
pub mod Example
pub mod Fields
pub mod Same
