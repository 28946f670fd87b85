pub mod Meanings
pub mod Bounds
