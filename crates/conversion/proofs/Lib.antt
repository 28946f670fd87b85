pub mod Converting
pub mod OneToOne
