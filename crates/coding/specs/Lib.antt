pub mod Coded
pub mod Bounds
