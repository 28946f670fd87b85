pub mod Surveys
pub mod OneToOne
pub mod Starting
