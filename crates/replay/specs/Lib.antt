pub mod Check
pub mod Demand
pub mod Undo
pub mod Workers
