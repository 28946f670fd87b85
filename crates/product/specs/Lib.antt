pub mod Components
pub mod Steps
