pub mod Spots
pub mod Lifted
pub mod Conjugate
pub mod Inverse
pub mod Kept
pub mod Undo
pub mod RustTable
