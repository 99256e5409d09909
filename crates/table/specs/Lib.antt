pub mod Table
pub mod Workers
