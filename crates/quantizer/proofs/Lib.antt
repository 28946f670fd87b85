pub mod OneToOne
pub mod Written
