pub mod OneToOne
pub mod Measured
pub mod Records
pub mod Counted
