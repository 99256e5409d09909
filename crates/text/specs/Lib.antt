pub mod Readers
pub mod Numbers
pub mod Lists
pub mod Lines
pub mod Workers
