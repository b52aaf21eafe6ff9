pub mod Choosing
pub mod Recoding
