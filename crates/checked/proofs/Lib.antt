pub mod Laws
pub mod Small
pub mod Six
pub mod Never
pub mod Edges
