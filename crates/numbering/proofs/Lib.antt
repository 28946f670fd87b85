pub mod Selected
pub mod OfRow
pub mod Writing
