pub mod Added
pub mod Likeness
pub mod Named
pub mod Numbered
pub mod Passing
pub mod Pieces
pub mod RowPlaces
pub mod Standing
