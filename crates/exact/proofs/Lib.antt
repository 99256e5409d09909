pub mod Reading
pub mod Exact
pub mod Editions
pub mod Sharp
