pub mod Circuit
pub mod Gate
pub mod Laws
pub mod Spelling
pub mod Sum
