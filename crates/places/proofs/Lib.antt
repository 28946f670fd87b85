pub mod Opening
pub mod Naming
