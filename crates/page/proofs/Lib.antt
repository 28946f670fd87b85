pub mod Surveyed
pub mod Taking
pub mod Collecting
pub mod Scaled
pub mod OneToOne
pub mod Tallying
