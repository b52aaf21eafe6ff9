pub mod Calls
pub mod Families
pub mod Flow
pub mod Leaving
pub mod Outcome
pub mod Rows
