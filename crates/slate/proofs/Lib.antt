pub mod Given
pub mod Example
