pub mod Written
pub mod Joined
pub mod Example
