pub mod Operator
pub mod Readings
pub mod Word
