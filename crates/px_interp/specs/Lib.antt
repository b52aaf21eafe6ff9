pub mod Rows
pub mod Run
pub mod Shape
pub mod Table
pub mod Words
