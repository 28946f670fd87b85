pub mod ProductForm
pub mod Mirror
pub mod Largest
pub mod Example
