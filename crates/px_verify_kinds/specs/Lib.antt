pub mod Heights
pub mod Kinds
pub mod Stacks
