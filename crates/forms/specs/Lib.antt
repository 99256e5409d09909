pub mod Answers
pub mod Form
pub mod Fields
pub mod Workers
