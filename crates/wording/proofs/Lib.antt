pub mod Example
pub mod Decimal
