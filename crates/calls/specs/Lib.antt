pub mod Limits
pub mod Gate
pub mod Answer
