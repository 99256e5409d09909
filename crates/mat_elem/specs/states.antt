pub mod Sums
pub mod Vectors
pub mod Sizes
