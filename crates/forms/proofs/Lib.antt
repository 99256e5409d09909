pub mod Kit
pub mod Octets
pub mod Pairs
pub mod Texts
pub mod Reading
