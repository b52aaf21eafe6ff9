pub mod Named
pub mod Naming
pub mod Operands
pub mod Outside
pub mod Parts
pub mod Read
