pub mod Layout
pub mod Link
pub mod Names
pub mod One
pub mod Overrides
pub mod Parts
pub mod Placed
pub mod Raw
