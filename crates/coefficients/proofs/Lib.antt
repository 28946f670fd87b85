pub mod Usable
pub mod Radii
pub mod Points
