pub mod Adding
pub mod Circuits
pub mod Formulas
pub mod GateValues
pub mod Literals
pub mod Spellings
pub mod Sums
