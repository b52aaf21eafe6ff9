pub mod Answer
pub mod Descent
pub mod Learning
pub mod Order
pub mod Search
pub mod Turn
