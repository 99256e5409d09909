pub mod Passing
pub mod Rooms
pub mod Parts
pub mod Lines
pub mod Demand
