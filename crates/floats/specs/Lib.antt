pub mod Units
pub mod Nearest
pub mod Exact
pub mod Example
