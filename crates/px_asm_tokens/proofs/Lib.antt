pub mod BodyFormed
pub mod BodyStands
pub mod BodyStays
pub mod BodyTargets
pub mod TokenRows
