pub mod Hashes
pub mod Infos
pub mod Keys
pub mod Making
pub mod Names
pub mod Numbers
pub mod Parts
