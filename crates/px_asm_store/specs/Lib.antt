pub mod Constructors
pub mod Elements
pub mod Kept
pub mod Rows
