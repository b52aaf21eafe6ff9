pub mod Bytes
pub mod Encoding
pub mod Laws
pub mod Parts
