pub mod Offsets
pub mod Cells
pub mod Books
pub mod Converting
pub mod Positions
pub mod Example
