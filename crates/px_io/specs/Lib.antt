pub mod Counts
pub mod Files
pub mod Memory
pub mod Pieces
pub mod Puts
