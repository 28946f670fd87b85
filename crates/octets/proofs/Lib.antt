pub mod Back
pub mod Example
pub mod Reading
