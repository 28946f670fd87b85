pub mod OneToOne
