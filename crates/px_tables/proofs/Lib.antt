pub mod Bad
pub mod Cells
pub mod Counting
pub mod Headers
pub mod Places
pub mod Sizes
pub mod Sound
