pub mod Ends
pub mod Numbers
pub mod Sound
pub mod Text
