pub mod Pairs
pub mod Tests
pub mod Meaning
pub mod Answers
pub mod Never
pub mod One
