mod Explaining
pub mod Exploring
