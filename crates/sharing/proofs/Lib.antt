pub mod Picks
pub mod Levels
pub mod Squares
pub mod Nearest
pub mod Example
