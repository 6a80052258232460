pub mod Parts
pub mod Turns
pub mod Walks
