pub mod Columns
pub mod Counts
pub mod Laws
pub mod Metadata
pub mod Reading
pub mod Rows
pub mod Streams
