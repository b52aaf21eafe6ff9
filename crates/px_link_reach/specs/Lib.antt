pub mod Bodies
pub mod Finding
pub mod Met
pub mod Overriders
pub mod Parts
