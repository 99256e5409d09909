pub mod Refused
pub mod Workers
pub mod Calls
