pub mod Lines
pub mod Runs
pub mod Words
pub mod Numbers
pub mod Escapes
