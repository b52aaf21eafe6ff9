pub mod Counting
pub mod Piecewise
pub mod Putting
