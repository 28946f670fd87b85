pub mod Says
pub mod OneToOne
