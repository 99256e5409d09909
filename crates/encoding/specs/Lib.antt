pub mod Limits
pub mod Words
pub mod Set
pub mod Ranks
pub mod Refusals
