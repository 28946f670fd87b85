pub mod Best
pub mod Shares
pub mod Remainders
pub mod Example
