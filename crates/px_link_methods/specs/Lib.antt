pub mod Codes
pub mod Methods
pub mod Parts
pub mod Slots
