pub mod Args
pub mod Domain
pub mod Givens
pub mod Grammar
pub mod Place
pub mod Reading
pub mod Text
