pub mod Linking
pub mod Made
pub mod Whole
