pub mod Bytes
pub mod Firsts
pub mod Sizes
pub mod Steps
pub mod Turns
pub mod Runs
