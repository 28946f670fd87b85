pub mod Words
pub mod Example
