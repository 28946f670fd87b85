pub mod Writing
pub mod Located
