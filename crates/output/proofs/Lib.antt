pub mod Over
pub mod Puts
pub mod Texts
pub mod Runs
pub mod Writes
