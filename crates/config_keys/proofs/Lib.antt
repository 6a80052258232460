pub mod Keys
pub mod Heeded
