pub mod Begins
pub mod Entries
pub mod Gives
pub mod Laws
pub mod Search
pub mod Sweeps
pub mod Visits
