pub mod Range
pub mod Workers
