pub mod Contents
pub mod Parts
pub mod Readings
pub mod Kept
pub mod Names
