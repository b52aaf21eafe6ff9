pub mod Algebra
pub mod Elements
pub mod Operands
pub mod Plain
pub mod Slots
