pub mod Accepted
pub mod Clashes
pub mod Judged
pub mod Laws
pub mod Numbering
pub mod Sound
pub mod Verdict
