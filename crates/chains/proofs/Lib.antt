pub mod Hashing
pub mod Seeks
