pub mod Signs
pub mod Tests
pub mod Rows
pub mod Loop
pub mod Meaning
pub mod Logs
