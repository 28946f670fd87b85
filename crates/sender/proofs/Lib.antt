pub mod Run
pub mod Named
pub mod Steps
pub mod Example
