pub mod Heaps
pub mod Spelling
pub mod Numbers
pub mod Types
pub mod Texts
