pub mod Verdict
pub mod Workers
