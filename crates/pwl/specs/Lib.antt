pub mod Bytes
pub mod File
pub mod Calls
pub mod Workers
