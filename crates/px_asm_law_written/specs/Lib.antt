pub mod Holds
pub mod Laws
pub mod Store
pub mod Tokens
pub mod Written
