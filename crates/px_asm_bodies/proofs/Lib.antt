pub mod Bodies
pub mod Clauses
pub mod Little
pub mod Operands
pub mod Pushed
pub mod Read
pub mod Reading
