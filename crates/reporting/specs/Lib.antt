pub mod Listing
pub mod Calls
pub mod Steps
pub mod Example
