pub mod Again
pub mod Laws
pub mod Linked
