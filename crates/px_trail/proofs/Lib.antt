pub mod Levels
pub mod Lookups
pub mod Places
pub mod Prefixes
pub mod Rounds
pub mod Scans
pub mod Tables
pub mod Trails
