pub mod Layout
pub mod Converting
pub mod Positions
pub mod Example
