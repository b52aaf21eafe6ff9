pub mod Depth
pub mod Many
pub mod Owed
pub mod Pile
pub mod Inner
