pub mod Example
pub mod ModesExample
pub mod BooksExample
pub mod LayoutsExample
