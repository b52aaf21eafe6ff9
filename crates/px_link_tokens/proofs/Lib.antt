pub mod Around
pub mod Flags
pub mod Keys
pub mod Members
pub mod Named
pub mod Nesting
pub mod Reading
