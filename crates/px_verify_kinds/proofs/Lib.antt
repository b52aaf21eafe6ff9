pub mod Lines
pub mod Cells
pub mod Walked
pub mod Merging
