pub mod Fitting
pub mod Image
pub mod Layout
pub mod Metadata
pub mod Parts
