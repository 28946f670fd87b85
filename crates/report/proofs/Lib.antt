pub mod Joined
pub mod LinesSays
pub mod OneToOne
pub mod Spanned
