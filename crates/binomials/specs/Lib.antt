pub mod ProductForm
pub mod Example
