pub mod After
pub mod Few
pub mod Growth
pub mod Weighing
