pub mod Assembled
pub mod Loaded
pub mod Running
pub mod TableHolds
pub mod TableMethods
