pub mod AsWords
pub mod PlainRuns
pub mod Related
pub mod Runs
pub mod Steps
pub mod Typed
