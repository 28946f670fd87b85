pub mod OneToOne
pub mod Printed
pub mod InOrder
pub mod Each
pub mod OneNumber
pub mod Lengths
pub mod Example
