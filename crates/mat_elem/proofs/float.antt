pub mod Scan
pub mod Unique
pub mod Zero
pub mod Never
pub mod Times
pub mod Partial
pub mod Block
pub mod Meaning
