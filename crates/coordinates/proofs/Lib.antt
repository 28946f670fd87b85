pub mod Coordinates
pub mod Writing
pub mod Sums
