pub mod States
pub mod Spots
