pub mod Example
pub mod Value
pub mod Nearest
pub mod Limit
pub mod Rounding
pub mod Signs
pub mod Patterns
pub mod Exact
