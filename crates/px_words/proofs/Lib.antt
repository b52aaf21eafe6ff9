pub mod Fits
pub mod Numbers
pub mod Ones
pub mod Widened
