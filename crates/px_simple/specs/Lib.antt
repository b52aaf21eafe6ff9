pub mod Search
pub mod Simple
pub mod Typing
