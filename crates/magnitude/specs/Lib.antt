pub mod Rows
pub mod Tails
pub mod Steps
