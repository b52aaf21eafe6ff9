pub mod Bounds
pub mod Ends
pub mod Following
pub mod Front
pub mod Little
pub mod Opcodes
pub mod Sections
pub mod Starts
