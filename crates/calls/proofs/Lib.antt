pub mod Kit
pub mod Said
pub mod Left
pub mod Lined
