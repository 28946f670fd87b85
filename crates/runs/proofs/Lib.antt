pub mod Example
pub mod Positions
pub mod Way
pub mod Judging
pub mod Records
