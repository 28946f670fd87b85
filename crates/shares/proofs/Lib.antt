pub mod Best
pub mod Mapped
pub mod Sums
pub mod Giving
pub mod Sharing
pub mod Divided
pub mod Remainders
pub mod Example
