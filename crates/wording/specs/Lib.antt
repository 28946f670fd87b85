pub mod Text
pub mod Example
