pub mod Describes
pub mod Writable
