pub mod Terms
pub mod Sums
pub mod Operator
pub mod whole
pub mod float
pub mod states
pub mod Workers
pub mod Numbers
