pub mod Scans
pub mod Runs
pub mod Tests
pub mod Digits
pub mod Texts
