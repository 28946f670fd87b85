pub mod Usable
pub mod Largest
pub mod Row
pub mod Table
pub mod Way
pub mod BookNumbers
pub mod Example
