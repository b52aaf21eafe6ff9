pub mod Numbers
pub mod Stands
pub mod Parts
pub mod Spelled
pub mod Whole
