pub mod Places
pub mod Gates
pub mod Matrices
