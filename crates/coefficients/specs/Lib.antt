pub mod Coefficients
pub mod Points
pub mod Radius
pub mod Example
