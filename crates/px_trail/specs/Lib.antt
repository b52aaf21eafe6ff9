pub mod Assignment
pub mod Outcome
pub mod Propagation
pub mod Trail
