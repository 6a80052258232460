pub mod Decoding
pub mod Reading
pub mod Checking
