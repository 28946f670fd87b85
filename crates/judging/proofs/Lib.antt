pub mod States
pub mod Judging
pub mod Shown
