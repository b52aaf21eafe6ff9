pub mod Built
pub mod Search
pub mod Typed
