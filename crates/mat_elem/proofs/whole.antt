pub mod Size
pub mod Block
pub mod Meaning
